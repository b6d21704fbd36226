-- Notes whose kinds and paths lie apart: one at a place, one written behind the others or in place of all, and all of them from the last to the first.
use Rattle.std.specs.Prelude.{ℕ, zero, suc, ◌+◌, ◌<◌, ◌≤◌, ◌≡◌, refl, List, [], ◌∷◌, ◌++◌, Bool, true, false, ◌&&◌, not, length, take, drop, set, get_or, Some, IsSome, unwrap_or, is_some}
use Rattle.std.specs.List.{list_all}
use Rattle.std.specs.Borrow.{Bor}
use Rattle.std.proofs.lemmas.List.Folds.{list_all_more, list_all-append}
use Rattle.image.specs.Prelude.{sym, ap, ap₂, ◌∙◌, arith, subst, and-true, and-false, get_or-take}
use Rattle.live_count.specs.declared.notes.Note.{Note}
use Rattle.live_count.specs.declared.notes.Notes.{Notes}
use Rattle.live_count.specs.Notes.Notes.{note_covers, quiet, silent, kept, paired, Gathered}
use Rattle.live_count.specs.Notes.Apart.{take-pushed}
use Rattle.live_count.specs.Notes.Steps.{gathered-more}

pub paired-length : (cs : List Bool) (ps : List (Bor (List ℕ))) (n : ℕ) → length cs ≡ n → length ps ≡ n → length (paired cs ps) ≡ n
unfolding paired
paired-length [] ps n e f = e
paired-length (c ∷ cs) [] n e f = absurd (omega arith)
paired-length (c ∷ cs) (p ∷ ps) zero e f = absurd (omega arith)
paired-length (c ∷ cs) (p ∷ ps) (suc n) e f = let h = paired-length cs ps n (omega arith) (omega arith) in omega arith

pub paired-at : (cs : List Bool) (ps : List (Bor (List ℕ))) (i : ℕ) (b : Bool) (p : Bor (List ℕ)) (v : Note) → i < length cs → i < length ps
    → v ≡ record { clears = get_or cs i b; path = get_or ps i p } → get_or (paired cs ps) i v ≡ v
unfolding paired
paired-at [] ps i b p v h g e = absurd (omega arith)
paired-at (c ∷ cs) [] i b p v h g e = absurd (omega arith)
paired-at (c ∷ cs) (q ∷ ps) zero b p v h g e = sym e
paired-at (c ∷ cs) (q ∷ ps) (suc i) b p v h g e = paired-at cs ps i b p v (omega arith) (omega arith) e

pub paired-set : (cs : List Bool) (ps : List (Bor (List ℕ))) (i : ℕ) (v : Note) → paired (set cs i v.clears) (set ps i v.path) ≡ set (paired cs ps) i v
unfolding paired
paired-set [] [] i v = refl
paired-set [] (p ∷ ps) i v = refl
paired-set (c ∷ cs) [] zero v = refl
paired-set (c ∷ cs) [] (suc i) v = refl
paired-set (c ∷ cs) (p ∷ ps) zero v = refl
paired-set (c ∷ cs) (p ∷ ps) (suc i) v = ap (λ vs. record { clears = c; path = p } ∷ vs) (paired-set cs ps i v)

-- a note among the first n that is on a key
pub not-quiet : (vs : List Note) (n i : ℕ) (v : Note) (k : List ℕ) → i < n → i < length vs → get_or vs i v ≡ v → note_covers v k ≡ true → quiet (take n vs) k ≡ false
not-quiet [] n i v k h g e t = absurd (omega arith)
not-quiet (x ∷ vs) zero i v k h g e t = absurd (omega arith)
not-quiet (x ∷ vs) (suc n) zero v k h g e t = ap (λ b. not b && quiet (take n vs) k) (ap (λ y. note_covers y k) e ∙ t)
not-quiet (x ∷ vs) (suc n) (suc i) v k h g e t = ap (λ b. not (note_covers x k) && b) (not-quiet vs n i v k (omega arith) (omega arith) e t) ∙ and-false (not (note_covers x k))

-- all of a list from a place on
pub all-from : {X : Type 0} (p : X → Bool) (xs : List X) (i : ℕ) (d : X) → i < length xs → list_all p (drop i xs) ≡ p (get_or xs i d) && list_all p (drop (suc i) xs)
all-from p [] i d h = absurd (omega arith)
all-from p (x ∷ xs) zero d h = refl
all-from p (x ∷ xs) (suc i) d h = all-from p xs i d (omega arith)

in-taken : {X : Type 0} (xs : List X) (n i : ℕ) → i < n → i < length xs → i < length (take n xs)
in-taken xs zero i h g = absurd (omega arith)
in-taken [] (suc n) i h g = absurd (omega arith)
in-taken (x ∷ xs) (suc n) zero h g = omega arith
in-taken (x ∷ xs) (suc n) (suc i) h g = let l = in-taken xs n i (omega arith) (omega arith) in omega arith

-- one note in place of all
module _ (n r : Notes) (v : Note) (all : (k : List ℕ) → note_covers v k ≡ true) (q : r.count ≡ Some 1) (f : r.clears ≡ set n.clears 0 v.clears) (g : r.paths ≡ set n.paths 0 v.path) where
  pub kept-alone : IsSome n.count → (lo hi : List ℕ) → Gathered lo hi (λ k. not (note_covers v k)) n r
  kept-alone s lo hi = record { room = λ z. s; tells = λ z k o. told k }
    where
      alone : kept r ≡ v ∷ []
      alone = let m = paired-length n.clears n.paths 64 n.alike n.full in
          ap (λ x. take (unwrap_or x 0) (paired r.clears r.paths)) q
          ∙ ap₂ (λ x y. take 1 (paired x y)) f g ∙ ap (λ x. take 1 x) (paired-set n.clears n.paths 0 v)
          ∙ take-pushed (paired n.clears n.paths) 0 v (omega arith)

      told : (k : List ℕ) → silent r k ≡ silent n k && not (note_covers v k)
      told k = ap (λ vs. quiet vs k) alone ∙ ap (λ b. not b && true) (all k) ∙ sym (ap (λ b. silent n k && not b) (all k) ∙ and-false (silent n k))

-- notes of which there is a count
module _ (n : Notes) (c : ℕ) (e : n.count ≡ Some c) where
  few : c ≤ 64
  few = rw e at n.few

  many : length (paired n.clears n.paths) ≡ 64
  many = paired-length n.clears n.paths 64 n.alike n.full

  kept-here : kept n ≡ take c (paired n.clears n.paths)
  kept-here = ap (λ m. take (unwrap_or m 0) (paired n.clears n.paths)) e

  module _ (i : ℕ) (v : Note) (h : i < c) (s : get_or (paired n.clears n.paths) i v ≡ v) where
    pub loud : (k : List ℕ) → note_covers v k ≡ true → false ≡ silent n k
    loud k t = let f = few in let m = many in sym (ap (λ vs. quiet vs k) kept-here ∙ not-quiet (paired n.clears n.paths) c i v k h (omega arith) s t)

    -- a note where one that is kept is on all keys
    pub covered : ((k : List ℕ) → note_covers v k ≡ true) → (w : Note) → (lo hi : List ℕ) → Gathered lo hi (λ k. not (note_covers w k)) n n
    covered all w lo hi = record { room = λ z. z; tells = λ z k o. let q = loud k (all k) in sym q ∙ ap (λ x. x && not (note_covers w k)) q }

    -- a note like one that is kept
    pub repeated : (w : Note) → ((k : List ℕ) → note_covers v k ≡ note_covers w k) → (lo hi : List ℕ) → Gathered lo hi (λ k. not (note_covers w k)) n n
    repeated w like lo hi = record { room = λ z. z; tells = λ z k o. go k (note_covers w k) refl }
      where
        go : (k : List ℕ) (b : Bool) → note_covers w k ≡ b → silent n k ≡ silent n k && not (note_covers w k)
        go k true f = let q = loud k (like k ∙ f) in sym q ∙ ap (λ x. x && not (note_covers w k)) q
        go k false f = sym (ap (λ x. silent n k && not x) f ∙ and-true (silent n k))

    -- the next of the notes that are gone through
    pub notes-on : (lo hi after : List ℕ) (first now next : Notes) → Gathered lo hi (λ k. quiet (take i (kept n)) (after ++ k)) first now
        → Gathered lo hi (λ k. not (note_covers v (after ++ k))) now next → Gathered lo hi (λ k. quiet (take (i + 1) (kept n)) (after ++ k)) first next
    notes-on lo hi after first now next f g =
        let m = many in let w = few in
        gathered-more lo hi (λ k. quiet (take i (kept n)) (after ++ k)) (λ k. not (note_covers v (after ++ k))) (λ k. quiet (take (i + 1) (kept n)) (after ++ k)) first now next f g
        (λ k o. list_all_more (λ x. not (note_covers x (after ++ k))) (kept n) i v (subst (λ vs. i < length vs) (sym kept-here) (in-taken (paired n.clears n.paths) c i h (omega arith)))
        ∙ ap (λ x. quiet (take i (kept n)) (after ++ k) && not (note_covers x (after ++ k))) (ap (λ vs. get_or vs i v) kept-here ∙ get_or-take c (paired n.clears n.paths) i v h ∙ s))

  -- a note behind the others
  pub noted-behind : (r : Notes) (v : Note) → c < 64 → r.count ≡ Some (c + 1) → r.clears ≡ set n.clears c v.clears → r.paths ≡ set n.paths c v.path
      → (lo hi : List ℕ) → Gathered lo hi (λ k. not (note_covers v k)) n r
  noted-behind r v h q f g lo hi = record { room = λ z. ap is_some e; tells = λ z k o. told k }
    where
      pairs : kept r ≡ kept n ++ v ∷ []
      pairs = let m = many in
          ap (λ x. take (unwrap_or x 0) (paired r.clears r.paths)) q
          ∙ ap₂ (λ x y. take (c + 1) (paired x y)) f g ∙ ap (λ x. take (c + 1) x) (paired-set n.clears n.paths c v)
          ∙ take-pushed (paired n.clears n.paths) c v (omega arith) ∙ ap (λ x. x ++ v ∷ []) (sym kept-here)

      told : (k : List ℕ) → silent r k ≡ silent n k && not (note_covers v k)
      told k = ap (λ vs. quiet vs k) pairs ∙ list_all-append (λ x. not (note_covers x k)) (kept n) (v ∷ []) ∙ ap (λ x. silent n k && x) (and-true (not (note_covers v k)))
