-- For a caller of a step: the questions that it asks, and what is known of the place after it.
-- Relies on: the list of next's questions, successor's law of the path that next finds.
use Rattle.std.specs.Prelude.{ℕ, ◌≤◌, ◌<◌, ◌≡◌, refl, List, [], ◌∷◌, Bool, true, false, ◌&&◌, length, take, leb}
use Rattle.image.specs.Prelude.{sym, ap, ap₂, ◌∙◌, false≢true, arith, leb-true, leb-false}
use Rattle.image.specs.Bytes.{same}
use Rattle.image.specs.Path.{well_formed, path_or_empty, reads_on, letter}
use Rattle.image.specs.Table.{is_some, least_after}
use Rattle.image.specs.Image.{whole_nodes}
use Rattle.image.specs.Sound.{sound, table_of}
use Rattle.image.specs.Calls.{next, Question, ask, first_no, found_by}
use Rattle.query.specs.Asked.{paths_fit, buffer_limit, number_is}
use Rattle.successor.specs.Present.{Next, next-found}
use Rattle.image.specs.declared.Listing.{Listing}
use Rattle.image.specs.Listing.{last_path, blank, step_no, path_at, Steps}
use Rattle.listing.specs.Moves.{last_fits, last-over}

-- a question whose answer is yes can be left out
leave-out : (a b c : Bool) (qs : List Question) → first_no (ask 1 a ∷ ask 2 b ∷ ask 3 c ∷ ask 5 true ∷ qs) ≡ first_no (ask 1 a ∷ ask 2 b ∷ ask 3 c ∷ qs)
unfolding first_no
leave-out true true true qs = refl
leave-out true true false qs = refl
leave-out true false c qs = refl
leave-out false b c qs = refl

-- A step asks 1, 2, 3 and 8, in this order; the path that it lists may be empty, as next's first. It is lent no buffer, so 5 is not among them.
pub step-asks : (s below : List ℕ) (p : Listing) → step_no s below p
    ≡ first_no (ask 1 (whole_nodes (length s)) ∷ ask 2 (sound s) ∷ ask 3 (path_or_empty below && path_or_empty (last_path p))
    ∷ ask 8 (is_some (least_after below (last_path p) (table_of s))) ∷ [])
unfolding step_no paths_fit buffer_limit found_by blank
step-asks s below p =
    number_is s (next below (last_path p)) blank
    ∙ leave-out (whole_nodes (length s)) (sound s) (path_or_empty below && path_or_empty (last_path p)) _

zero-malformed : well_formed (0 ∷ []) ≡ false
unfolding well_formed reads_on letter
zero-malformed = refl

-- a place whose length is over 64 is refused by question 3, where the store passes 1 and 2
pub over-refused : (s below : List ℕ) (p : Listing) → 64 < p.len → whole_nodes (length s) ≡ true → sound s ≡ true → step_no s below p ≡ 3
over-refused s below p h w e =
    step-asks s below p ∙ ap₂ (λ (x y : Bool). first_no (ask 1 x ∷ ask 2 y ∷ ask 3 (fits (last_path p)) ∷ rest)) w e
    ∙ ap (λ (z : Bool). first_no (ask 1 true ∷ ask 2 true ∷ ask 3 z ∷ rest)) (ap fits (last-over p h) ∙ no-path)
    ∙ third rest
  where
    fits : List ℕ → Bool
    fits q = path_or_empty below && path_or_empty q

    rest : List Question
    rest = ask 8 (is_some (least_after below (last_path p) (table_of s))) ∷ []

    and_no : (x y : Bool) → y ≡ false → x && y ≡ false
    and_no true y f = f
    and_no false y f = refl

    no-path : path_or_empty below && path_or_empty (0 ∷ []) ≡ false
    no-path = and_no (path_or_empty below) _ (unfold same in zero-malformed)

    third : (qs : List Question) → first_no (ask 1 true ∷ ask 2 true ∷ ask 3 false ∷ qs) ≡ 3
    third qs = unfold first_no in refl

module _ (s below : List ℕ) (p p' : Listing) (m : Steps s below p 0 p') where
  -- The path that an accepted step moves on to is present, below the given one, greater than the last, well formed, and at most 64 bytes.
  pub step-next : Next s below (last_path p) (last_path p')
  unfolding path_at
  step-next =
      next-found s below (last_path p) (last_path p') (two-yes _ _ _ _ (sym (step-asks s below p) ∙ sym m.answer))
      (sym (m.path ∙ ap (λ (k : ℕ). path_at k below (last_path p) (table_of s)) (sym m.answer)))
    where
      two-yes : (a b c d : Bool) → first_no (ask 1 a ∷ ask 2 b ∷ ask 3 c ∷ ask 8 d ∷ []) ≡ 0 → b ≡ true
      two-yes a true c d h = refl
      two-yes true false c d h = absurd (let z : ◌≡◌ {A = ℕ} 2 0 = (unfold first_no in h) in omega arith)
      two-yes false false c d h = absurd (let z : ◌≡◌ {A = ℕ} 1 0 = (unfold first_no in h) in omega arith)

  -- its length lies within the array, so the path is the first len bytes
  pub step_fits : p'.len ≤ 64
  step_fits = go (leb p'.len 64) refl
    where
      go : (x : Bool) → leb p'.len 64 ≡ x → p'.len ≤ 64
      go true h = leb-true p'.len 64 h
      go false h = absurd (false≢true (sym zero-malformed ∙ ap well_formed (sym (last-over p' (leb-false p'.len 64 h))) ∙ step-next.formed))

  pub step-path : last_path p' ≡ take p'.len p'.last
  step-path = last_fits p' step_fits
