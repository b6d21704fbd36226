-- The requests of a batch one by one. Relies on the definitions of image's Batch.
use Rattle.std.specs.Prelude.{ℕ, zero, suc, ◌+◌, ◌≤◌, ◌≡◌, refl, List, [], ◌∷◌, length}
use Rattle.image.specs.Prelude.{sym, ap, ◌∙◌, Option, none, some, arith, length-drop}
use Rattle.image.specs.Bytes.{u16}
use Rattle.image.specs.Batch.{Request, first_request, behind, request_then, requests_in, requests_of}

-- no bytes, no request
none_first : first_request [] ≡ none
unfolding first_request
none_first = refl

-- the bound on their number is enough
fuel : (n m : ℕ) (s : List ℕ) → length s ≤ n → length s ≤ m → requests_in n s ≡ requests_in m s
unfolding requests_in request_then
fuel zero zero s h k = refl
fuel zero (suc m) [] h k = sym (ap (λ o. request_then o (requests_in m (behind []))) none_first)
fuel zero (suc m) (b ∷ s) h k = absurd (omega arith)
fuel (suc n) zero [] h k = ap (λ o. request_then o (requests_in n (behind []))) none_first
fuel (suc n) zero (b ∷ s) h k = absurd (omega arith)
fuel (suc n) (suc m) s h k = ap (request_then (first_request s)) (fuel n m (behind s) (shorter n h) (shorter m k))
  where
    shorter : (j : ℕ) → length s ≤ suc j → length (behind s) ≤ j
    shorter j q = unfold behind in let d = length-drop (4 + u16 s 0) s in omega arith

step : (s : List ℕ) → requests_of s ≡ request_then (first_request s) (requests_of (behind s))
unfolding requests_of requests_in request_then
step [] = sym (ap (λ o. request_then o (requests_of (behind []))) none_first)
step (b ∷ s) = ap (request_then (first_request (b ∷ s))) (fuel (length s) (length (behind (b ∷ s))) (behind (b ∷ s)) shorter (omega arith))
  where
    shorter : length (behind (b ∷ s)) ≤ length s
    shorter = unfold behind in let d = length-drop (4 + u16 (b ∷ s) 0) (b ∷ s) in omega arith

pub requests-end : (s : List ℕ) → first_request s ≡ none → requests_of s ≡ []
requests-end s e = step s ∙ ap (λ o. request_then o (requests_of (behind s))) e ∙ unfold request_then in refl

pub requests-more : (s : List ℕ) (r : Request) → first_request s ≡ some r → requests_of s ≡ r ∷ requests_of (behind s)
requests-more s r e = step s ∙ ap (λ o. request_then o (requests_of (behind s))) e ∙ unfold request_then in refl

-- there are no more of them than bytes
in-few : (n : ℕ) (s : List ℕ) → length (requests_in n s) ≤ n
unfolding requests_in request_then
in-few zero s = omega arith
in-few (suc n) s = then_few (first_request s) (requests_in n (behind s)) (in-few n (behind s))
  where
    then_few : (o : Option Request) (rs : List Request) → length rs ≤ n → length (request_then o rs) ≤ suc n
    then_few none rs h = omega arith
    then_few (some r) rs h = omega arith

pub requests-few : (s : List ℕ) → length (requests_of s) ≤ length s
unfolding requests_of
requests-few s = in-few (length s) s
