-- A call after questions 1 and 2: what it is handed, and what its part from question 3 on leaves of the store and of the work area.
-- Relies on rebuild (an area cleared) and on finish (a cleared area, cleared again).
use Rattle.std.specs.Prelude.{ℕ, ◌*◌, ◌/◌, ◌≤◌, ◌≡◌, refl, List, true, ◌⊎◌, length, drop, Result, Ok, Err, IsErrAnd}
use Rattle.std.proofs.lemmas.Result.{err_from_is_err_and}
use Rattle.image.specs.Prelude.{sym, ap, subst, ◌∙◌, inl, ⊎_elim, arith}
use Rattle.image.specs.Image.{nodes_of, whole_nodes}
use Rattle.image.specs.Sound.{sound, table_of}
use Rattle.image.specs.Calls.{Call, work_per_node, table_after}
use Rattle.image.specs.Contract.{first_no_on, Besides, Meets}
use Rattle.image.specs.Answers.{refusal_number, outcome_answer}
use Rattle.image.specs.declared.Refusal.{Refusal}
use Rattle.node.specs.Whole.{whole_parts}
use Rattle.rebuild.specs.Rebuild.{cleared}
use Rattle.questions.specs.Callers.{Lent, act-meets, act-refused}
use Rattle.finish.specs.Finished.{cleared-size, cleared-later, cleared-again}
use Rattle.tree_check.specs.declared.Tally.{Tally}
use Rattle.questions.specs.Asked.{Fit}

-- questions 1 and 2 are a yes
pub record Passed (s w : List ℕ) : Type 0 where
  pub whole : whole_nodes (length s) ≡ true
  pub long : work_per_node * nodes_of (length s) ≤ length w
  pub is_sound : sound s ≡ true

pub passed : (s w seen : List ℕ) (t : Tally) → Fit s w t seen → Passed s w
passed s w seen t f = record { whole = f.whole; long = f.long; is_sound = f.is_sound }

-- the work area as a call with this answer must leave it
unfoldable pub area_after : Result (Unit {0}) Refusal → ℕ → List ℕ → List ℕ
area_after (Ok u) n w = cleared n w
area_after (Err q) n w = w

-- The part of a call from question 3 on. Its contract holds with the work area as it must be left; the area itself is left as it was, or
-- cleared, so that an area that was zero is zero, and a refusal has left it.
pub record Acted (s : List ℕ) (c : Call) (r : Result (Unit {0}) Refusal) (s' w w' : List ℕ) : Type 0 where
  pub met : Meets s c (outcome_answer r) s' (area_after r (nodes_of (length s)) w)
  pub area : (w' ≡ w) ⊎ (w' ≡ cleared (nodes_of (length s)) w)
  pub kept : (q : Refusal) → r ≡ Err q → w' ≡ w

pub acted-done : {c : Call} {w : List ℕ} (s s' w' : List ℕ) → Lent c w → first_no_on s c ≡ 0 → sound s' ≡ true → table_of s' ≡ table_after c (table_of s)
    → length s' ≡ length s → (w' ≡ w) ⊎ (w' ≡ cleared (nodes_of (length s)) w) → Besides c s s' → Acted s c (Ok tt) s' w w'
unfolding area_after
acted-done {c} {w} s s' w' l accepts good table size area besides =
    record {
      met = act-meets s s' (cleared (nodes_of (length s)) w) l accepts good table size refl besides;
      area = area;
      kept = λ q e. absurd (let z : ◌≡◌ {A = ℕ} 0 1 = cc in omega arith);
    }

pub acted-refused : {c : Call} {w : List ℕ} (s : List ℕ) (q : Refusal) → Lent c w → first_no_on s c ≡ refusal_number q → Acted s c (Err q) s w w
unfolding area_after
acted-refused s q l e = record { met = act-refused s q l e; area = inl refl; kept = λ r f. refl }

counts-nodes : (n len : ℕ) → n ≡ len / 1024 → n ≡ nodes_of len
unfolding nodes_of
counts-nodes n len e = e

module _ (s : List ℕ) (c : Call) (r : Result (Unit {0}) Refusal) (s' w w' : List ℕ) (p : Passed s w) (a : Acted s c r s' w w') where
  same_size : length w' ≡ length w
  same_size = ⊎_elim (λ e. ap length e) (λ e. cleared-size (nodes_of (length s)) w w' e p.long) a.area

  same-later : drop (work_per_node * nodes_of (length s)) w' ≡ drop (work_per_node * nodes_of (length s)) w
  same-later = ⊎_elim (λ e. ap (drop (work_per_node * nodes_of (length s))) e) (λ e. cleared-later (nodes_of (length s)) w w' e) a.area

  -- the area is long enough to be zeroed
  pub acted-long : (128 * (length s' / 1024) ≤ length w') × (length s' / 1024 ≤ 1024)
  unfolding nodes_of
  acted-long = (
    subst (λ k. 128 * (k / 1024) ≤ length w') (sym a.met.size) (subst (λ k. work_per_node * nodes_of (length s) ≤ k) (sym same_size) p.long),
    subst (λ k. k / 1024 ≤ 1024) (sym a.met.size) (whole_parts (length s) p.whole).few,
  )

  -- and then the call's contract holds
  pub acted-meets : (n : ℕ) (w'' : List ℕ) → n ≡ length s' / 1024 → w'' ≡ area_after r n w' → Meets s c (outcome_answer r) s' w''
  acted-meets n w'' z e = subst (Meets s c (outcome_answer r) s') (sym (e ∙ by-nodes (z ∙ ap (λ k. k / 1024) a.met.size))) a.met
    where
      by_answer : (o : Result (Unit {0}) Refusal) → r ≡ o → area_after o (nodes_of (length s)) w' ≡ area_after o (nodes_of (length s)) w
      by_answer (Ok u) q = unfold area_after in cleared-again (nodes_of (length s)) w w' same-later
      by_answer (Err x) q = unfold area_after in a.kept x q

      by-nodes : n ≡ length s / 1024 → area_after r n w' ≡ area_after r (nodes_of (length s)) w
      by-nodes q = ap (λ k. area_after r k w') (counts-nodes n (length s) q) ∙ by_answer r refl

  -- an area that is zero where it must be stays as it is, and the contract holds already
  module _ (zero_area : w ≡ cleared (nodes_of (length s)) w) where
    pub acted-kept : w' ≡ w
    acted-kept = ⊎_elim (λ e. e) (λ e. e ∙ sym zero_area) a.area

    pub acted-zero : Meets s c (outcome_answer r) s' w
    acted-zero = subst (Meets s c (outcome_answer r) s') (by_answer r) a.met
      where
        by_answer : (o : Result (Unit {0}) Refusal) → area_after o (nodes_of (length s)) w ≡ w
        by_answer (Ok u) = unfold area_after in sym zero_area
        by_answer (Err x) = unfold area_after in refl

-- FOR CALLERS
module _ (s : List ℕ) (c : Call) (s' w w' : List ℕ) where
  -- accepted: the area is zeroed
  pub accepted-meets : Passed s w → Acted s c (Ok tt) s' w w' → (n : ℕ) (w'' : List ℕ) → n ≡ length s' / 1024 → w'' ≡ cleared n w'
      → Meets s c (outcome_answer (Ok tt)) s' w''
  unfolding area_after
  accepted-meets p a n w'' z e = acted-meets s c (Ok tt) s' w w' p a n w'' z e

  -- refused: the refusal is handed on, and the area left
  pub refused-left : (q : Refusal) → Acted s c (Err q) s' w w' → (r : Result (Unit {0}) Refusal) → IsErrAnd r (λ y. y ≡ q) → Meets s c (outcome_answer r) s' w'
  unfolding area_after
  refused-left q a r h =
      let p = err_from_is_err_and r h in
      rw (p.1, p.2) (subst (Meets s c (outcome_answer (Err q)) s') (sym (a.kept q refl)) a.met)
