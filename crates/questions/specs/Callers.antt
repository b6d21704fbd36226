-- For the calls that are lent a work area (acts and upkeep): the contract Meets from what the code does. One law for an accepted call, one
-- for a refused one, one for each answer of questions 1 and 2; then settle and tidy, which are a rebuild.
-- Relies on the paper's definitions and on what a rebuild promises.
use Rattle.std.specs.Prelude.{ℕ, zero, suc, ◌*◌, ◌<◌, ◌≤◌, ◌≡◌, refl, List, [], ◌++◌, true, false, ◌&&◌, length, leb, Ok, Err}
use Rattle.image.specs.Prelude.{sym, ap, ◌∙◌, arith, le-leb, lt-leb}
use Rattle.image.specs.Table.{Row}
use Rattle.image.specs.Image.{nodes_of, whole_nodes}
use Rattle.image.specs.Sound.{sound, table_of}
use Rattle.image.specs.Calls.{Call, acts, keeps, Act, settle, tidy, Upkeep, number, first_no, work_per_node, work_long, act_questions, questions, act_table, table_after, accepted, refused, answer_at, table_at}
use Rattle.image.specs.Contract.{node_questions, first_no_on, Besides, work_at, Meets}
use Rattle.image.specs.Answers.{refusal_number, outcome_number, outcome_answer}
use Rattle.image.specs.declared.Refusal.{Refusal}
use Rattle.octets.specs.Order.{and-false}
use Rattle.rebuild.specs.Rebuild.{Rebuilt, cleared}
use Rattle.laws.specs.Refusals.{refusal-some}

-- the call is lent the work area w
pub data Lent : Call → List ℕ → Type 0 where
  to_act : {a : Act} {w : List ℕ} → Lent (acts a w) w
  to_keep : {u : Upkeep} {i : ℕ} {w : List ℕ} → Lent (keeps u i w) w

-- A CALL OF WHICH THE FIRST NO IS KNOWN
done-answer : {c : Call} {w : List ℕ} (t : List Row) → Lent c w → outcome_answer (Ok tt) ≡ answer_at 0 c t
unfolding outcome_answer outcome_number answer_at accepted
done-answer t to_act = refl
done-answer t to_keep = refl

done-work : {c : Call} {w : List ℕ} (n : ℕ) → Lent c w → cleared n w ≡ work_at 0 n c
unfolding work_at
done-work n to_act = refl
done-work n to_keep = refl

refused-answer : {c : Call} {w : List ℕ} (k : ℕ) (t : List Row) → Lent c w → number (suc k) ≡ answer_at (suc k) c t
unfolding answer_at refused
refused-answer k t to_act = refl
refused-answer k t to_keep = refl

refused-work : {c : Call} {w : List ℕ} (k n : ℕ) → Lent c w → w ≡ work_at (suc k) n c
unfolding work_at
refused-work k n to_act = refl
refused-work k n to_keep = refl

-- an accepted call: a sound store of the same size with the right table, what the call keeps besides, and the work area cleared
pub act-meets : {c : Call} {w : List ℕ} (s s' w' : List ℕ) → Lent c w → first_no_on s c ≡ 0 → sound s' ≡ true → table_of s' ≡ table_after c (table_of s)
    → length s' ≡ length s → w' ≡ cleared (nodes_of (length s)) w → Besides c s s' → Meets s c (outcome_answer (Ok tt)) s' w'
unfolding table_at
act-meets {c} {w} s s' w' l accepts good table size work besides =
    record {
      size = size;
      answer = done-answer (table_of s) l ∙ ap (λ k. answer_at k c (table_of s)) (sym accepts);
      work = work ∙ done-work (nodes_of (length s)) l ∙ ap (λ k. work_at k (nodes_of (length s)) c) (sym accepts);
      table = table ∙ ap (λ k. table_at k c (table_of s)) (sym accepts);
      stays = λ k h. absurd (let z : ◌≡◌ {A = ℕ} 0 (suc k) = sym accepts ∙ h in omega arith);
      leaves = λ h. good;
      also = λ h. besides;
    }

-- a refused call: the store and the work area are as they were
pub act-refused : {c : Call} {w : List ℕ} (s : List ℕ) (r : Refusal) → Lent c w → first_no_on s c ≡ refusal_number r → Meets s c (outcome_answer (Err r)) s w
act-refused {c} {w} s r l refuses = by_number (refusal_number r) refl
  where
    answered : (k : ℕ) → refusal_number r ≡ k → outcome_answer (Err r) ≡ number k
    answered k e = unfold outcome_answer outcome_number in ap (λ j. number j) e

    same_table : (k : ℕ) → table_of s ≡ table_at (suc k) c (table_of s)
    same_table k = unfold table_at in refl

    by_number : (k : ℕ) → refusal_number r ≡ k → Meets s c (outcome_answer (Err r)) s w
    by_number zero e = absurd (let z = refusal-some r in omega arith)
    by_number (suc k) e =
        let f : first_no_on s c ≡ suc k = refuses ∙ e in
        record {
          size = refl;
          answer = answered (suc k) e ∙ refused-answer k (table_of s) l ∙ ap (λ j. answer_at j c (table_of s)) (sym f);
          work = refused-work k (nodes_of (length s)) l ∙ ap (λ j. work_at j (nodes_of (length s)) c) (sym f);
          table = same_table k ∙ ap (λ j. table_at j c (table_of s)) (sym f);
          stays = λ j h. refl;
          leaves = λ h. absurd (let z : ◌≡◌ {A = ℕ} 0 (suc k) = sym h ∙ f in omega arith);
          also = λ h. absurd (let z : ◌≡◌ {A = ℕ} 0 (suc k) = sym h ∙ f in omega arith);
        }

-- QUESTIONS 1 AND 2
long-is : {c : Call} {w : List ℕ} (n : ℕ) → Lent c w → work_long n c ≡ leb (work_per_node * n) (length w)
unfolding work_long
long-is n to_act = refl
long-is n to_keep = refl

-- the questions after 1 and 2
unfoldable pub later_no : List ℕ → Call → ℕ
later_no s c = first_no (node_questions c s ++ questions (nodes_of (length s)) c (table_of s))

module _ {c : Call} {w : List ℕ} (s : List ℕ) (l : Lent c w) where
  pub ragged-number : whole_nodes (length s) ≡ false → first_no_on s c ≡ refusal_number Refusal.Length
  unfolding first_no_on first_no refusal_number
  ragged-number e = rw e refl

  pub short-number : length w < work_per_node * nodes_of (length s) → first_no_on s c ≡ refusal_number Refusal.Length
  unfolding first_no_on first_no refusal_number
  short-number h =
      let e : work_long (nodes_of (length s)) c ≡ false = long-is (nodes_of (length s)) l ∙ lt-leb (work_per_node * nodes_of (length s)) (length w) h in
      let f : whole_nodes (length s) && work_long (nodes_of (length s)) c ≡ false = ap (λ b. whole_nodes (length s) && b) e ∙ and-false (whole_nodes (length s)) in
      rw f refl

  module _ (whole : whole_nodes (length s) ≡ true) (long : work_per_node * nodes_of (length s) ≤ length w) where
    long-yes : work_long (nodes_of (length s)) c ≡ true
    long-yes = long-is (nodes_of (length s)) l ∙ le-leb (work_per_node * nodes_of (length s)) (length w) long

    pub unsound-number : sound s ≡ false → first_no_on s c ≡ refusal_number Refusal.Unsound
    unfolding first_no_on first_no refusal_number
    unsound-number e = rw (whole, long-yes, e) refl

    pub later-number : sound s ≡ true → first_no_on s c ≡ later_no s c
    unfolding first_no_on first_no later_no
    later-number e = rw (whole, long-yes, e) refl

-- SETTLE AND TIDY
-- an act that is asked no more than questions 1 and 2, and leaves the table
pub record Plain (a : Act) : Type 0 where
  pub unasked : (n : ℕ) (t : List Row) → act_questions n a t ≡ []
  pub same_table : (t : List Row) → act_table a t ≡ t

pub plain-settle : Plain settle
unfolding act_questions act_table
plain-settle = record { unasked = λ n t. refl; same_table = λ t. refl }

pub plain-tidy : Plain tidy
unfolding act_questions act_table
plain-tidy = record { unasked = λ n t. refl; same_table = λ t. refl }

module _ (s s' w w' : List ℕ) (whole : whole_nodes (length s) ≡ true) (long : work_per_node * nodes_of (length s) ≤ length w) (good : sound s ≡ true) where
  -- questions 1 and 2 are a yes: an act that asks no more is accepted
  pub plain-number : (a : Act) → Plain a → first_no_on s (acts a w) ≡ 0
  unfolding later_no node_questions questions first_no
  plain-number a p = later-number s to_act whole long good ∙ rw (p.unasked (nodes_of (length s)) (table_of s)) refl

  pub plain-meets : (a : Act) → Plain a → Rebuilt s s' w w' → Besides (acts a w) s s' → Meets s (acts a w) (outcome_answer (Ok tt)) s' w'
  unfolding table_after
  plain-meets a p r besides =
      act-meets s s' w' to_act (plain-number a p) r.is_sound (r.table ∙ sym (p.same_table (table_of s))) r.size r.work besides

  pub settle-meets : Rebuilt s s' w w' → Meets s (acts settle w) (outcome_answer (Ok tt)) s' w'
  unfolding Besides
  settle-meets r = plain-meets settle plain-settle r r.is_settled

  pub tidy-meets : Rebuilt s s' w w' → Meets s (acts tidy w) (outcome_answer (Ok tt)) s' w'
  unfolding Besides
  tidy-meets r = plain-meets tidy plain-tidy r r.is_tidied
