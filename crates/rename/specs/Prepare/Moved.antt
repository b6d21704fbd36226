-- The call move from its steps: the questions in order, the path that stays, and the swing with the live count made right.
-- Relies on slice/Moving's swung (what the swing leaves), on Prepared, and on finish's Finished.
use Rattle.std.specs.Prelude.{ℕ, zero, suc, ◌+◌, ◌*◌, ◌-◌, ◌/◌, ◌≤◌, ◌≡◌, refl, List, Bool, true, false, ◌&&◌, not, length, take, drop, Ok, Err}
use Rattle.image.specs.Prelude.{sym, ap, ap₂, subst, ◌∙◌, false≢true, arith, length-take-le}
use Rattle.image.specs.Bytes.{same, begins}
use Rattle.image.specs.Path.{well_formed, proper_beginning, may_move}
use Rattle.image.specs.Table.{rows_below, moved, every_key}
use Rattle.image.specs.Image.{node_bytes, nodes_of, whole_nodes, header_of}
use Rattle.image.specs.Sound.{sound, table_of}
use Rattle.image.specs.Upkeep.{changed}
use Rattle.image.specs.Calls.{acts, move, first_no, is_empty, questions, act_questions, table_after, act_table}
use Rattle.image.specs.Contract.{node_questions, first_no_on, Besides, Meets}
use Rattle.image.specs.Answers.{refusal_number, outcome_answer}
use Rattle.image.specs.declared.Refusal.{Refusal}
use Rattle.octets.specs.Order.{and_left, and_right, not_so, same_refl, same_turn}
use Rattle.laws.specs.ButLive.{sound_but_live, parts_of, sound-but-live}
use Rattle.laws.specs.Follow.{table-rises}
use Rattle.append.specs.Laws.SetLive.{with_live, live-length, live_table, live-but}
use Rattle.rebuild.specs.Rebuild.{cleared}
use Rattle.questions.specs.Callers.{to_act, later_no, later-number, act-meets, act-refused}
use Rattle.finish.specs.Finished.{Finished, cleared-again}
use Rattle.slice.specs.Moving.MoveImage.{Free, Roots, roots, moved_length}
use Rattle.slice.specs.Moving.MoveDone.{moved_store}
use Rattle.packed.specs.Build.Handed.{listed, handed_from, handed}
use Rattle.slice.specs.Moving.MoveBound.{Swung}
use Rattle.swing.specs.Head.{swung_with, swung-right, swung-back}
use Rattle.swing.specs.Plan.{SwingAsks}
use Rattle.swing.specs.Asked.{whole-swing}
use Rattle.questions.specs.Acted.{Passed}
use Rattle.rename.specs.Prepare.Prepared.{Prepared}
use Rattle.rename.specs.Prepare.Steps.{listed-take}
use Rattle.rename.specs.Prepare.Unmoved.{moved_nowhere}

-- THE QUESTIONS, by what the code is told of each
module _ (s w : List ℕ) (f : Passed s w) (from to : List ℕ) (a : Bool) (a-is : a ≡ well_formed from) where
  number_is : first_no_on s (acts (move from to) w) ≡ first_no (act_questions (nodes_of (length s)) (move from to) (table_of s))
  number_is = later-number s to_act f.whole f.long f.is_sound ∙ shown
    where
      shown : later_no s (acts (move from to) w) ≡ first_no (act_questions (nodes_of (length s)) (move from to) (table_of s))
      shown = unfold later_no node_questions questions in refl

  refuse : (r : Refusal) → first_no (act_questions (nodes_of (length s)) (move from to) (table_of s)) ≡ refusal_number r
      → Meets s (acts (move from to) w) (outcome_answer (Err r)) s w
  refuse r e = act-refused s r to_act (number_is ∙ e)

  pub from-malformed : a ≡ false → Meets s (acts (move from to) w) (outcome_answer (Err Refusal.Malformed)) s w
  from-malformed e = refuse Refusal.Malformed (unfold act_questions first_no refusal_number in rw (sym a-is ∙ e) refl)

  module _ (a-yes : a ≡ true) (b : Bool) (b-is : b ≡ well_formed to) where
    pub to-malformed : b ≡ false → Meets s (acts (move from to) w) (outcome_answer (Err Refusal.Malformed)) s w
    to-malformed e = refuse Refusal.Malformed (unfold act_questions first_no refusal_number in rw (sym a-is ∙ a-yes, sym b-is ∙ e) refl)

    module _ (b-yes : b ≡ true) (c : Bool) (c-is : c ≡ may_move from to) where
      pub nested : c ≡ false → Meets s (acts (move from to) w) (outcome_answer (Err Refusal.Nested)) s w
      nested e = refuse Refusal.Nested (unfold act_questions first_no refusal_number in rw (sym a-is ∙ a-yes, sym b-is ∙ b-yes, sym c-is ∙ e) refl)

      module _ (c-yes : c ≡ true) (d : Bool) (d-is : d ≡ not (is_empty (rows_below from (table_of s)))) where
        pub absent : d ≡ false → Meets s (acts (move from to) w) (outcome_answer (Err Refusal.Absent)) s w
        absent e = refuse Refusal.Absent (unfold act_questions first_no refusal_number in rw (sym a-is ∙ a-yes, sym b-is ∙ b-yes, sym c-is ∙ c-yes, sym d-is ∙ e) refl)

        module _ (d-yes : d ≡ true) (e : Bool) (e-is : e ≡ every_key well_formed (moved from to (table_of s))) where
          pub becomes-malformed : e ≡ false → Meets s (acts (move from to) w) (outcome_answer (Err Refusal.BecomesMalformed)) s w
          becomes-malformed h =
              refuse Refusal.BecomesMalformed
              (unfold act_questions first_no refusal_number in rw (sym a-is ∙ a-yes, sym b-is ∙ b-yes, sym c-is ∙ c-yes, sym d-is ∙ d-yes, sym e-is ∙ h) refl)

          -- all are a yes
          pub may-go : e ≡ true → first_no_on s (acts (move from to) w) ≡ 0
          may-go h =
              number_is ∙ (unfold act_questions first_no in rw (sym a-is ∙ a-yes, sym b-is ∙ b-yes, sym c-is ∙ c-yes, sym d-is ∙ d-yes, sym e-is ∙ h) refl)

-- neither path begins the other, where they differ
apart_of : (x y : Bool) → not (x && not y) ≡ true → y ≡ false → x ≡ false
apart_of true y h e = absurd (false≢true (sym (ap (λ z. not (not z)) e) ∙ h))
apart_of false y h e = refl

pub apart : (from to : List ℕ) → may_move from to ≡ true → same from to ≡ false → (begins from to ≡ false) × (begins to from ≡ false)
unfolding may_move proper_beginning
apart from to h e = (
  apart_of (begins from to) (same from to) (and_left _ _ h) e,
  apart_of (begins to from) (same to from) (and_right (not (begins from to && not (same from to))) _ h) (same_turn from to e),
)

-- FROM EQUAL TO TO
changed-none : (k : ℕ) (s : List ℕ) → changed k s s ≡ 0
unfolding changed
changed-none zero s = refl
changed-none (suc k) s = rw (same_refl (node_bytes s k)) (omega (arith, changed-none k s))

pub stays-meets : (s w w' from to : List ℕ) → sound s ≡ true → first_no_on s (acts (move from to) w) ≡ 0 → from ≡ to → w' ≡ cleared (nodes_of (length s)) w
    → Meets s (acts (move from to) w) (outcome_answer (Ok tt)) s w'
unfolding table_after act_table Besides
stays-meets s w w' from to ok go e z =
    act-meets s s w' to_act go ok (sym (moved_nowhere from (table_of s) (table-rises s ok)) ∙ ap (λ q. moved from q (table_of s)) e) refl z
    (record { unmoved = λ h. refl; few = λ h. omega (arith, changed-none (nodes_of (length s)) s) })

-- THE SWING
-- the numbers of the free nodes, as the swing is handed them
module _ (s s₁ w w₁ numbers free : List ℕ) (r : ℕ) (whole : whole_nodes (length s) ≡ true) (p : Prepared s s₁ w w₁ numbers r) (e : free ≡ take r numbers)
    (long : length numbers ≡ 1024) where
  pub list-end : r ≤ length numbers
  list-end = let a = p.few_listed in omega arith

  handed-list : handed free ≡ listed r numbers 0
  unfolding handed handed_from
  handed-list =
      let z : length free - 0 ≡ r = let a = ap length e ∙ length-take-le r numbers list-end in omega arith in
      ap₂ (λ k b. listed k b 0) z e ∙ listed-take r r numbers 0 (omega arith)

-- a store that was made ready, after the questions
pub swing-asks : (s s₁ w w₁ numbers free from to : List ℕ) (r : ℕ) → whole_nodes (length s) ≡ true → Prepared s s₁ w w₁ numbers r → free ≡ take r numbers → length numbers ≡ 1024 → well_formed from ≡ true
    → well_formed to ≡ true → may_move from to ≡ true → same from to ≡ false → every_key well_formed (moved from to (table_of s)) ≡ true → SwingAsks s₁ free from to
swing-asks s s₁ w w₁ numbers free from to r whole p e long a b c d q9 =
    record {
      whole = ap whole_nodes p.size ∙ whole;
      is_sound = p.is_sound;
      is_settled = p.is_settled;
      low = p.low;
      supply = subst (Free s₁) (sym (handed-list s s₁ w w₁ numbers free r whole p e long)) p.supply;
      formed_from = a;
      formed_to = b;
      apart_from = (apart from to c d).0;
      apart_to = (apart from to c d).1;
      nine = ap (λ u. every_key well_formed (moved from to u)) p.table ∙ q9;
    }

module _ (s free from to : List ℕ) (k : SwingAsks s free from to) where
  but_live : sound_but_live (moved_store s (handed free) from to) ≡ true
  but_live = sound-but-live (moved_store s (handed free) from to) (whole-swing s free from to k).is_sound

  module _ (s₂ : List ℕ) (live : ℕ) (live-few : live ≤ nodes_of (length s)) (e : s₂ ≡ swung_with live s (handed free) from to) where
    with-live : s₂ ≡ with_live (moved_store s (handed free) from to) live
    with-live = e ∙ swung-back s (handed free) from to live

    same_nodes : nodes_of (length (moved_store s (handed free) from to)) ≡ nodes_of (length s)
    same_nodes = ap nodes_of (whole-swing s free from to k).size

    -- what the end of the call asks
    pub size-2 : length s₂ ≡ length s
    size-2 = ap length with-live ∙ live-length (moved_store s (handed free) from to) live but_live ∙ (whole-swing s free from to k).size

    pub whole-2 : whole_nodes (length s₂) ≡ true
    whole-2 = ap whole_nodes size-2 ∙ k.whole

    pub but-live-2 : sound_but_live s₂ ≡ true
    but-live-2 = ap sound_but_live with-live ∙ live-but (moved_store s (handed free) from to) live but_live (omega (arith, same_nodes))

    pub table-2 : table_of s₂ ≡ moved from to (table_of s)
    table-2 = ap table_of with-live ∙ live_table (moved_store s (handed free) from to) live but_live ∙ (whole-swing s free from to k).table

    pub few-2 : length (table_of s₂) ≤ nodes_of (length s₂)
    few-2 =
        let a = ap length table-2 in
        let b = moved_length from to (table_of s) in
        let c : Roots s = roots s k.is_sound in
        let d = ap nodes_of size-2 in
        omega (arith, c.lives, c.few)

    -- and what it leaves: the move
    pub exact-3 : (s₃ w₁ w₂ : List ℕ) → Finished s₂ s₃ w₁ w₂ → s₃ ≡ moved_store s (handed free) from to
    exact-3 s₃ w₁ w₂ z =
        z.exact ∙ ap (with_live s₂) (ap length table-2) ∙ ap (λ x. with_live x (length (moved from to (table_of s)))) e ∙ swung-right s (handed free) from to live

-- the live count of node 0 is one that a header may have
pub live-few : (s : List ℕ) → sound s ≡ true → (header_of s).live ≤ nodes_of (length s)
live-few s ok = (parts_of s (sound-but-live s ok)).live_high

-- THE CALL
pub moved-meets : (s s₁ s₂ s₃ w w₁ w₂ numbers free from to : List ℕ) (r : ℕ) → whole_nodes (length s) ≡ true → first_no_on s (acts (move from to) w) ≡ 0 → same from to ≡ false
    → Prepared s s₁ w w₁ numbers r → SwingAsks s₁ free from to → s₂ ≡ swung_with (header_of s₁).live s₁ (handed free) from to → Finished s₂ s₃ w₁ w₂
    → Meets s (acts (move from to) w) (outcome_answer (Ok tt)) s₃ w₂
unfolding table_after act_table Besides
moved-meets s s₁ s₂ s₃ w w₁ w₂ numbers free from to r whole go differ p k e z =
    let l : (header_of s₁).live ≤ nodes_of (length s₁) = live-few s₁ p.is_sound in
    let d : Swung s₁ (moved_store s₁ (handed free) from to) from to = whole-swing s₁ free from to k in
    let x : s₃ ≡ moved_store s₁ (handed free) from to = exact-3 s₁ free from to k s₂ (header_of s₁).live l e s₃ w₁ w₂ z in
    let size : length s₂ ≡ length s = size-2 s₁ free from to k s₂ (header_of s₁).live l e ∙ p.size in
    let n : nodes_of (length s₂) ≡ nodes_of (length s) = ap nodes_of size in
    act-meets s s₃ w₂ to_act go z.is_sound
    (ap table_of x ∙ d.table ∙ ap (moved from to) p.table)
    (z.size ∙ size)
    (z.work ∙ ap (λ m. cleared m w₁) n ∙ cleared-again (nodes_of (length s)) w w₁ p.work_later)
    (record {
      unmoved = λ h. not_so (ap (λ q. same from q) (sym h) ∙ same_refl from) differ;
      few = λ h.
          let q : s₁ ≡ s = p.kept h in
          subst (λ u. changed (nodes_of (length u)) u s₃ ≤ 16 * (header_of u).levels + 8) q
          (subst (λ u. changed (nodes_of (length s₁)) s₁ u ≤ 16 * (header_of s₁).levels + 8) (sym x) d.few);
    })
