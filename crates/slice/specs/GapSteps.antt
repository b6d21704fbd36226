-- What the chain of empty nodes asks, and its step lemmas. Relies on specs/Moving's `gap_write`.
use Rattle.std.specs.Prelude.{ℕ, suc, ◌+◌, ◌*◌, ◌-◌, ◌<◌, ◌≤◌, ◌≡◌, refl, List, [], ◌++◌, length, drop, get_or}
use Rattle.image.specs.Prelude.{sym, ap, ap₂, ◌∙◌, append-nil, arith, length-drop}
use Rattle.image.specs.Bytes.{shared}
use Rattle.image.specs.Entry as defined
use Rattle.image.specs.Image.{end, tree}
use Rattle.laws.specs.Encode.{bytes_of, bytes_of_all, child-size}
use Rattle.laws.specs.Pieces.{lower, node}
use Rattle.laws.specs.Page.{page, pair_entries, child_entries}
use Rattle.laws.specs.WriteNode.{write_node}
use Rattle.slice.specs.Slicing.SliceWrite.{page_of}
use Rattle.slice.specs.Slicing.Tail.{gap_of}
use Rattle.slice.specs.Moving.GapWrite.{gap_write, gap-number}
use Rattle.slice.specs.Point.{fresh_in}

pub record GapAsks (s : List ℕ) (level : ℕ) (lo : List ℕ) (at : ℕ) (free : List ℕ) : Type 0 where
  pub some : 1 ≤ level
  pub levels : level ≤ 8
  pub short : length lo ≤ 65
  pub enough : at + level ≤ length free
  pub room : (i : ℕ) → i < at + level → fresh_in free i * 1024 + 1024 ≤ length s

module _ (s : List ℕ) (level : ℕ) (lo hi : List ℕ) (at : ℕ) (free : List ℕ) (pre : GapAsks s level lo at free) (new : ℕ) (en : new ≡ get_or free at 0) where
  pub gap-new : new * 1024 + 1024 ≤ length s
  unfolding fresh_in
  gap-new = let r = pre.room at (let a = pre.some in omega arith) in omega arith

  number : new ≡ fresh_in free at
  unfolding fresh_in
  number = en

  pub gap-leaf : (s' p : List ℕ) → level ≤ 1 → p ≡ [] → s' ≡ write_node s new (page 1 1 p) → s' ≡ gap_write (fresh_in free) level lo hi at s
  gap-leaf s' p h b q =
      let one : level ≡ 1 = let a = pre.some in omega arith in
      q ∙ ap (λ l. write_node s new (page 1 1 l)) b
      ∙ ap (λ n. write_node s n (page 1 1 [])) number ∙ shown ∙ ap (λ l. gap_write (fresh_in free) l lo hi at s) (sym one)
    where
      shown : write_node s (fresh_in free at) (page 1 1 []) ≡ gap_write (fresh_in free) 1 lo hi at s
      shown = unfold gap_write page_of pair_entries bytes_of_all in refl

  module _ (inner : 2 ≤ level) where
    pub gap-deeper : (s₁ : List ℕ) → length s₁ ≡ length s → GapAsks s₁ (level - 1) lo (at + 1) free
    gap-deeper s₁ e =
        record {
          some = omega arith;
          levels = let a = pre.levels in omega arith;
          short = pre.short;
          enough = let a = pre.enough in omega arith;
          room = λ i b. let r = pre.room i (omega arith) in omega arith;
        }

    module _ (d : ℕ) (ed : d ≡ length (shared lo hi)) (m : ℕ) (em : m ≡ get_or free (at + 1) 0) where
      pub gap-fits : length (bytes_of (defined.child m (drop d lo))) ≤ 1016
      gap-fits = let l = child-size m (drop d lo) in let k = length-drop d lo in let f = pre.short in omega arith

      pub gap-inner : (s₁ s₂ bare p : List ℕ) → s₁ ≡ gap_write (fresh_in free) (level - 1) lo hi (at + 1) s → bare ≡ []
          → p ≡ bare ++ bytes_of (defined.child m (drop d lo)) → s₂ ≡ write_node s₁ new (page 2 level p) → s₂ ≡ gap_write (fresh_in free) level lo hi at s
      gap-inner s₁ s₂ bare p a nil b q =
          let h = level - 2 in
          let z : at + 1 ≡ suc at = omega arith in
          let v : level - 1 ≡ suc (level - 2) = omega arith in
          let w : level ≡ suc (suc (level - 2)) = omega arith in
          let child' : m ≡ fresh_in free (suc at) = em ∙ ap (λ n. get_or free n 0) z ∙ later in
          q ∙ ap (λ l. write_node s₁ new (page 2 level l)) (b ∙ ap (λ l. l ++ bytes_of (defined.child m (drop d lo))) nil)
          ∙ ap₂ (λ x n. write_node x n (page 2 level (bytes_of (defined.child m (drop d lo)))))
          (a ∙ ap₂ (λ i j. gap_write (fresh_in free) i lo hi j s) v z) number
          ∙ ap₂ (λ i j. write_node (gap_write (fresh_in free) (suc (level - 2)) lo hi (suc at) s) (fresh_in free at) (page 2 i (bytes_of (defined.child j (drop d lo))))) w child'
          ∙ ap (λ i. write_node (gap_write (fresh_in free) (suc (level - 2)) lo hi (suc at) s) (fresh_in free at) (page 2 (suc (suc (level - 2))) (bytes_of (defined.child (fresh_in free (suc at)) (drop i lo))))) ed
          ∙ shown (level - 2) ∙ ap (λ i. gap_write (fresh_in free) i lo hi at s) (sym w)
        where
          later : get_or free (suc at) 0 ≡ fresh_in free (suc at)
          later = unfold fresh_in in refl

          entry : (h : ℕ) → bytes_of (defined.child (fresh_in free (suc at)) (drop (length (shared lo hi)) lo))
              ≡ bytes_of_all (child_entries (lower (shared lo hi) (tree lo (gap_of (fresh_in free) (suc h) lo hi (suc at)) end)))
          entry h =
              sym (append-nil (bytes_of (defined.child (fresh_in free (suc at)) (drop (length (shared lo hi)) lo))))
              ∙ ap (λ i. bytes_of (defined.child i (drop (length (shared lo hi)) lo)) ++ []) (sym (gap-number (fresh_in free) h lo hi (suc at)))
              ∙ (unfold lower child_entries bytes_of_all in refl)

          shown : (h : ℕ) → write_node (gap_write (fresh_in free) (suc h) lo hi (suc at) s) (fresh_in free at) (page 2 (suc (suc h)) (bytes_of (defined.child (fresh_in free (suc at)) (drop (length (shared lo hi)) lo))))
              ≡ gap_write (fresh_in free) (suc (suc h)) lo hi at s
          shown h = ap (λ b. write_node (gap_write (fresh_in free) (suc h) lo hi (suc at) s) (fresh_in free at) (page 2 (suc (suc h)) b)) (entry h) ∙ (unfold gap_write page_of node in refl)
