-- The steps of settle, tidy, flush and heal: one law for each way out of the code.
-- Relies on questions (Passed), and on questions' Callers (the contract from what was done).
use Rattle.std.specs.Prelude.{ℕ, suc, ◌*◌, ◌/◌, ◌≤◌, ◌≡◌, refl, List, [], ◌∷◌, ◌++◌, Bool, true, false, ◌&&◌, ◌||◌, not, cond, length, drop, leb, eqb, Ok, Err}
use Rattle.image.specs.Prelude.{sym, ap, subst, ◌∙◌, false≢true, true≢false, Option, none, some, arith, eqb-true}
use Rattle.image.specs.Entry.{Message}
use Rattle.image.specs.Image.{nodes_of, whole_nodes}
use Rattle.image.specs.Sound.{sound, table_of}
use Rattle.image.specs.Upkeep.{Reachable, reachable_nodes, reachable_at, every, holds_no_message, settled, overlap, gains_no_message, none_gains, from_level, emptied, none_waits, flushed}
use Rattle.image.specs.Calls.{acts, settle, tidy, keeps, Upkeep, flush, heal, work_per_node, first_no, questions, table_after}
use Rattle.image.specs.Contract.{is_interior, node_questions, upkeep_rule, Besides, Meets}
use Rattle.image.specs.Answers.{refusal_number, outcome_answer}
use Rattle.image.specs.declared.Refusal.{Refusal}
use Rattle.octets.specs.Order.{and_left, and_right}
use Rattle.laws.specs.Rising.{both}
use Rattle.laws.specs.Frame.{or_right}
use Rattle.laws.specs.Page.{zeros_of}
use Rattle.laws.specs.Upkeep.Kept.{gains-none-empty}
use Rattle.laws.specs.Upkeep.Healed.{place-test}
use Rattle.rebuild.specs.Rebuild.{Rebuilt, cleared}
use Rattle.questions.specs.Callers.{to_act, to_keep, later_no, later-number, act-meets, act-refused, plain-settle, plain-number, settle-meets, tidy-meets}
use Rattle.push.specs.Callers.{done-is, no-room-is}
use Rattle.push.specs.Laws.PushedDown.{PushedDown}
use Rattle.push.specs.Outcome as push
use Rattle.merge.specs.Laws.Mended.{HealedNode}
use Rattle.questions.specs.Acted.{Passed}
use Rattle.maintain.specs.Upkept.{Stayed, Upkept, Upheld}

-- REBUILD, OR NOT
pub stayed : (done : Bool) (s w w' : List ℕ) (len : ℕ) → done ≡ true → len ≡ 128 * (length s / 1024) → w' ≡ zeros_of len ++ drop len w → Upkept done s s w w'
unfolding Upkept zeros_of nodes_of
stayed true s w w' len d e f = record { same = refl; work = f ∙ rw e refl }
stayed false s w w' len d e f = absurd (false≢true d)

pub rebuilt : (done : Bool) (s s' w w' : List ℕ) → done ≡ false → Rebuilt s s' w w' → Upkept done s s' w w'
unfolding Upkept
rebuilt true s s' w w' d r = absurd (true≢false d)
rebuilt false s s' w w' d r = r

-- SETTLE AND TIDY
module _ (s s' w w' : List ℕ) (f : Passed s w) where
  settle-stays : settled s ≡ true → Stayed s s' w w' → Meets s (acts settle w) (outcome_answer (Ok tt)) s' w'
  unfolding Besides table_after
  settle-stays e l =
      act-meets s s' w' to_act (plain-number s s' w w' f.whole f.long f.is_sound settle plain-settle) (ap sound l.same ∙ f.is_sound)
      (ap table_of l.same ∙ sym (plain-settle.same_table (table_of s))) (ap length l.same) l.work (ap settled l.same ∙ e)

  pub settled-done : (done : Bool) → done ≡ settled s → Upkept done s s' w w' → Meets s (acts settle w) (outcome_answer (Ok tt)) s' w'
  settled-done true e l = settle-stays (sym e) (unfold Upkept in l)
  settled-done false e r = settle-meets s s' w w' f.whole f.long f.is_sound (unfold Upkept in r)

  pub tidied-done : Upkept false s s' w w' → Meets s (acts tidy w) (outcome_answer (Ok tt)) s' w'
  unfolding Upkept
  tidied-done r = tidy-meets s s' w w' f.whole f.long f.is_sound r

-- FLUSH
every-weaker : (test other : Reachable → Bool) → ((y : Reachable) → test y ≡ true → other y ≡ true) → (xs : List Reachable) → every test xs ≡ true → every other xs ≡ true
unfolding every
every-weaker test other law [] e = refl
every-weaker test other law (y ∷ xs) e = both (law y (and_left (test y) _ e)) (every-weaker test other law xs (and_right (test y) _ e))

quiet-empty : (ms : List Message) → eqb (length ms) 0 ≡ true → ms ≡ []
quiet-empty [] e = refl
quiet-empty (m ∷ ms) e = let z : suc (length ms) ≡ 0 = eqb-true (suc (length ms)) 0 e in absurd (omega arith)

-- a node without a message gains none
quiet-gains : (y : Reachable) (o : Option Reachable) → holds_no_message y ≡ true → gains_no_message y o ≡ true
quiet-gains y none e = unfold gains_no_message in e
quiet-gains y (some x) e = gains-none-empty x y (quiet-empty y.messages (unfold holds_no_message in e))

quiet-from : (was : List Reachable) (level : ℕ) (after : List Reachable) → every holds_no_message after ≡ true → none_gains was (from_level level after) ≡ true
unfolding every from_level none_gains
quiet-from was level [] e = refl
quiet-from was level (y ∷ after) e = go (leb level y.level) (quiet-from was level after (and_right (holds_no_message y) _ e))
  where
    go : (b : Bool) → none_gains was (from_level level after) ≡ true → none_gains was (cond b (y ∷ from_level level after) (from_level level after)) ≡ true
    go true ih = both (quiet-gains y (reachable_at y.number was) (and_left (holds_no_message y) _ e)) ih
    go false ih = ih

quiet-emptied : (n : ℕ) (after : List Reachable) → every holds_no_message after ≡ true → emptied (reachable_at n after) ≡ true
unfolding emptied
quiet-emptied n after e = go (reachable_at n after) refl
  where
    go : (o : Option Reachable) → reachable_at n after ≡ o → emptied o ≡ true
    go none h = refl
    go (some y) h = place-test holds_no_message n after y e h

-- where no node holds a message, every node is flushed
pub settled-flushed : (x : Reachable) (was after : List Reachable) → every holds_no_message after ≡ true → flushed x was after ≡ true
unfolding flushed none_waits
settled-flushed x was after e =
    both
    (both
    (every-weaker holds_no_message (λ y. not (eqb y.level x.level && overlap x y) || holds_no_message y)
    (λ y h. or_right (not (eqb y.level x.level && overlap x y)) (holds_no_message y) h) after e)
    (quiet-emptied x.number after e))
    (quiet-from was x.level after e)

pub settled-rule : (o : Option Reachable) (was : List Reachable) (s' : List ℕ) → settled s' ≡ true → upkeep_rule flush o was (reachable_nodes s') ≡ true
unfolding upkeep_rule settled
settled-rule none was s' e = refl
settled-rule (some x) was s' e = settled-flushed x was (reachable_nodes s') e

pub flushes : (node : ℕ) (s s' w w' : List ℕ) → Upkept false s s' w w' → Upheld flush node s s' w w'
unfolding Upkept
flushes node s s' w w' r =
    record {
      is_sound = r.is_sound;
      table = r.table;
      size = r.size;
      work = r.work;
      rule = settled-rule (reachable_at node (reachable_nodes s)) (reachable_nodes s) s' r.is_settled;
    }

module _ (u : Upkeep) (s w : List ℕ) (f : Passed s w) (node : ℕ) (b : Bool) (b-is : b ≡ is_interior (reachable_at node (reachable_nodes s))) where
  later_is : later_no s (keeps u node w) ≡ first_no (node_questions (keeps u node w) s)
  unfolding later_no node_questions questions
  later_is = refl

  pub not-interior : b ≡ false → Meets s (keeps u node w) (outcome_answer (Err Refusal.NotInterior)) s w
  unfolding node_questions first_no refusal_number
  not-interior e = act-refused s Refusal.NotInterior to_keep (later-number s to_keep f.whole f.long f.is_sound ∙ later_is ∙ rw (sym b-is ∙ e) refl)

  pub upheld-done : b ≡ true → (s' w' : List ℕ) → Upheld u node s s' w w' → Meets s (keeps u node w) (outcome_answer (Ok tt)) s' w'
  unfolding node_questions first_no table_after Besides
  upheld-done e s' w' r =
      act-meets s s' w' to_keep (later-number s to_keep f.whole f.long f.is_sound ∙ later_is ∙ rw (sym b-is ∙ e) refl)
      r.is_sound r.table r.size r.work r.rule

-- A PUSH OR A HEAL BEFORE THE REST
sized-passed : (s s₁ w : List ℕ) → Passed s w → length s₁ ≡ length s → sound s₁ ≡ true → Passed s₁ w
sized-passed s s₁ w p z e =
    record { whole = ap whole_nodes z ∙ p.whole; long = subst (λ k. work_per_node * nodes_of k ≤ length w) (sym z) p.long; is_sound = e }

pub pushed-passed : (node : ℕ) (s s₁ w : List ℕ) → Passed s w → PushedDown s node s₁ → Passed s₁ w
pushed-passed node s s₁ w p d = sized-passed s s₁ w p d.size d.is_sound

pub healed-passed : (node : ℕ) (s s₁ w : List ℕ) → Passed s w → HealedNode s node s₁ → Passed s₁ w
healed-passed node s s₁ w p d = sized-passed s s₁ w p d.size d.is_sound

-- the children are joined, and the work area is cleared
pub healed-upheld : (node : ℕ) (s s₁ s₂ w w₂ : List ℕ) → HealedNode s node s₁ → Upkept true s₁ s₂ w w₂ → Upheld heal node s s₂ w w₂
unfolding Upkept
healed-upheld node s s₁ s₂ w w₂ d u =
    record {
      is_sound = ap sound u.same ∙ d.is_sound;
      table = ap table_of u.same ∙ d.table;
      size = ap length u.same ∙ d.size;
      work = u.work ∙ ap (λ k. cleared (nodes_of k) w) d.size;
      rule = ap (λ x. upkeep_rule heal (reachable_at node (reachable_nodes s)) (reachable_nodes s) (reachable_nodes x)) u.same ∙ d.rule;
    }

-- the messages are with the children, and the work area is cleared
pub pushed-flushes : (node : ℕ) (s s₁ s₂ w w₂ : List ℕ) → PushedDown s node s₁ → Upkept true s₁ s₂ w w₂ → Upheld flush node s s₂ w w₂
unfolding Upkept
pushed-flushes node s s₁ s₂ w w₂ d u =
    record {
      is_sound = ap sound u.same ∙ d.is_sound;
      table = ap table_of u.same ∙ d.table;
      size = ap length u.same ∙ d.size;
      work = u.work ∙ ap (λ k. cleared (nodes_of k) w) d.size;
      rule = ap (λ x. upkeep_rule flush (reachable_at node (reachable_nodes s)) (reachable_nodes s) (reachable_nodes x)) u.same ∙ d.rule;
    }

-- there was no room, and no byte changed
pub unpushed-passed : (s s₁ w : List ℕ) → Passed s w → s₁ ≡ s → Passed s₁ w
unpushed-passed s s₁ w p e = subst (λ x. Passed x w) (sym e) p

pub unpushed-flushes : (node : ℕ) (s s₁ s₂ w w₂ : List ℕ) → s₁ ≡ s → Upkept false s₁ s₂ w w₂ → Upheld flush node s s₂ w w₂
unpushed-flushes node s s₁ s₂ w w₂ e u = subst (λ x. Upheld flush node x s₂ w w₂) e (flushes node s₁ s₂ w w₂ u)

-- either of these, by the answer of the push
pub flushed-passed : (node : ℕ) (done : Bool) (s s₁ w : List ℕ) → Passed s w → push.Outcome s node done s₁ → Passed s₁ w
flushed-passed node true s s₁ w p h = pushed-passed node s s₁ w p (done-is s node true s₁ h refl)
flushed-passed node false s s₁ w p h = unpushed-passed s s₁ w p (no-room-is s node false s₁ h refl)

pub flushed-upheld : (node : ℕ) (done : Bool) (s s₁ s₂ w w₂ : List ℕ) → push.Outcome s node done s₁ → Upkept done s₁ s₂ w w₂ → Upheld flush node s s₂ w w₂
flushed-upheld node true s s₁ s₂ w w₂ h u = pushed-flushes node s s₁ s₂ w w₂ (done-is s node true s₁ h refl) u
flushed-upheld node false s s₁ s₂ w w₂ h u = unpushed-flushes node s s₁ s₂ w w₂ (no-room-is s node false s₁ h refl) u
