-- What the library's methods on slices compute, in the words of image's Bytes, of Ordering and of Put.
use Rattle.std.specs.Prelude.{ℕ, ◌≡◌, refl, List, [], ◌∷◌, ◌++◌, ◌&&◌, length, take, drop, ltb, eqb}
use Rattle.std.specs.Cmp.Lexicographic.{pointwise, slice_cmp}
use Rattle.std.specs.Ordering.{nat_cmp}
use Rattle.image.specs.Prelude.{ap, ap₂, ◌∙◌, drop-drop, cases}
use Rattle.image.specs.Bytes.{same, before, begins}
use Rattle.octets.specs.Ordering.{ordering}
use Rattle.octets.specs.Put.{put}

-- `b.starts_with(a)`
pub begins_is : (a b : List ℕ) → pointwise eqb a (take (length a) b) ≡ begins a b
unfolding begins
begins_is [] b = refl
begins_is (x ∷ a) [] = refl
begins_is (x ∷ a) (y ∷ b) = ap (λ t. eqb x y && t) (begins_is a b)

-- `a.cmp(&b)`
pub ordering_is : (a b : List ℕ) → slice_cmp nat_cmp a b ≡ ordering a b
unfolding ordering before same
ordering_is [] [] = refl
ordering_is [] (y ∷ b) = refl
ordering_is (x ∷ a) [] = refl
ordering_is (x ∷ a) (y ∷ b) = cases (ltb x y) (λ e. rw e) (λ e. cases (eqb x y) (λ f. rw (e, f) (ordering_is a b)) (λ f. rw (e, f)))

-- a part of a page written
pub part_put : (page : List ℕ) (at k : ℕ) (bs now : List ℕ) → now ≡ bs → k ≡ length bs → take at page ++ (now ++ drop k (drop at page)) ≡ put page at bs
unfolding put
part_put page at k bs now e h = ap₂ (λ n l. take at page ++ (n ++ l)) e (ap (λ n. drop n (drop at page)) h ∙ drop-drop (length bs) at page)
