-- What an answer of next says of a step: an accepted one moves the place on, a refused one leaves it. One law for each.
-- Relies on: what a contract tells at once (demands), query's laws of its questions and of a filled buffer, successor's of the path that next finds.
use Rattle.std.specs.Prelude.{ℕ, zero, suc, ◌-◌, ◌≤◌, ◌<◌, ◌≡◌, refl, List, [], ◌∷◌, length, take, drop, Result, Ok, Err}
use Rattle.image.specs.Prelude.{sym, ap, subst, ◌∙◌, some, arith, le-leb, lt-leb}
use Rattle.image.specs.Bytes.{before}
use Rattle.image.specs.Table.{Row, least_after}
use Rattle.image.specs.Sound.{table_of}
use Rattle.image.specs.Calls.{asks, next, Answer, number_of, found_by}
use Rattle.image.specs.Contract.{first_no_on, Meets}
use Rattle.image.specs.Answers.{refusal_number, found_answer}
use Rattle.image.specs.declared.Refusal.{Refusal}
use Rattle.demands.specs.Consequences.{number_is, Answered, query-answered}
use Rattle.query.specs.Asked.{number-by-length}
use Rattle.query.specs.Front.{Front, front-filled}
use Rattle.successor.specs.Present.{Next, next-found}
use Rattle.image.specs.declared.Listing.{Listing}
use Rattle.image.specs.Listing.{last_path, blank, step_no, path_at, Steps}
use Rattle.laws.specs.Refusals.{refusal-some}

-- the path at a place, by its length
pub last_fits : (p : Listing) → p.len ≤ 64 → last_path p ≡ take p.len p.last
unfolding last_path
last_fits p h = rw (le-leb p.len 64 h)

pub last-over : (p : Listing) → 64 < p.len → last_path p ≡ 0 ∷ []
unfolding last_path
last-over p h = rw (lt-leb p.len 64 h)

-- what next answers to the bytes that the code hands it is what it answers to the place's path
module _ (s below : List ℕ) (p : Listing) (buffer : List ℕ) (a : Answer) where
  pub after-over : 64 < p.len → Meets s (asks (next below (0 ∷ [])) buffer) a s [] → Meets s (asks (next below (last_path p)) buffer) a s []
  after-over h m = subst (λ (q : List ℕ). Meets s (asks (next below q) buffer) a s []) (sym (last-over p h)) m

  pub after-fits : p.len ≤ 64 → Meets s (asks (next below (take (p.len - 0) (drop 0 p.last))) buffer) a s []
      → Meets s (asks (next below (last_path p)) buffer) a s []
  after-fits h m =
      let z : p.len - 0 ≡ p.len = omega arith in
      subst (λ (q : List ℕ). Meets s (asks (next below q) buffer) a s []) (ap (λ (k : ℕ). take k p.last) z ∙ sym (last_fits p h)) m

-- the number of each of next's answers
length-number : (n : ℕ) (buffer : List ℕ) → number_of (found_answer (Ok n) buffer) ≡ 0
unfolding found_answer number_of
length-number n buffer = refl

refused-number : (why : Refusal) (buffer : List ℕ) → number_of (found_answer (Err why) buffer) ≡ refusal_number why
unfolding found_answer number_of
refused-number why buffer = refl

path-kept : (k : ℕ) (below q : List ℕ) (t : List Row) → (k ≡ 0 → ⊥) → some q ≡ path_at k below q t
unfolding path_at
path-kept zero below q t h = absurd (h refl)
path-kept (suc k) below q t h = refl

-- next was lent the place's own bytes
module _ (s below : List ℕ) (p : Listing) (long : length p.last ≡ 64) (r : Result ℕ Refusal) (buffer' : List ℕ)
    (m : Meets s (asks (next below (last_path p)) p.last) (found_answer r buffer') s []) where
  number-told : number_of (found_answer r buffer') ≡ step_no s below p
  unfolding step_no blank
  number-told = number_is m ∙ number-by-length s (next below (last_path p)) p.last blank long

  answered : (n : ℕ) → r ≡ Ok n → Answered s (next below (last_path p)) p.last n buffer'
  unfolding found_answer
  answered n e = query-answered (rw e at m)

  -- next found a path: the place moves on to it
  pub moves-on : (n : ℕ) → r ≡ Ok n → Steps s below p 0 (record { last = buffer'; len = n })
  unfolding path_at found_by
  moves-on n e =
      let number : 0 ≡ step_no s below p = sym (length-number n buffer') ∙ ap (λ (x : Result ℕ Refusal). number_of (found_answer x buffer')) (sym e) ∙ number-told in
      let no-no : first_no_on s (asks (next below (last_path p)) p.last) ≡ 0 = sym (number_is m) ∙ number-told ∙ sym number in
      let a : Answered s (next below (last_path p)) p.last n buffer' = answered n e in
      let f : Front a.bytes p.last n buffer' = front-filled a.bytes p.last n buffer' a.len_is a.out_is in
      let least : least_after below (last_path p) (table_of s) ≡ some (take n buffer') = a.found ∙ ap some (sym f.front) in
      let found : Next s below (last_path p) (take n buffer') = next-found s below (last_path p) (take n buffer') (m.leaves no-no) least in
      let short : n ≤ 64 = omega (arith, found.short, ap length f.front, f.size) in
      let path : last_path (record { last = buffer'; len = n }) ≡ take n buffer' = last_fits (record { last = buffer'; len = n }) short in
      record {
        answer = number;
        path = ap some path ∙ sym least ∙ ap (λ (k : ℕ). path_at k below (last_path p) (table_of s)) number;
        behind = λ h. f.behind;
        rises = λ h. ap (before (last_path p)) path ∙ found.after;
        stays = λ k h. absurd (omega (arith, number, h));
      }

  -- next refused: the place stays
  pub stays_put : (why : Refusal) → r ≡ Err why → Steps s below p (refusal_number why) p
  stays_put why e =
      let number : refusal_number why ≡ step_no s below p = sym (refused-number why buffer') ∙ ap (λ (x : Result ℕ Refusal). number_of (found_answer x buffer')) (sym e) ∙ number-told in
      let some-no : step_no s below p ≡ 0 → ⊥ = λ h. omega (arith, refusal-some why, number ∙ h) in
      record {
        answer = number;
        path = path-kept (step_no s below p) below (last_path p) (table_of s) some-no;
        behind = λ h. refl;
        rises = λ h. absurd (some-no h);
        stays = λ k h. refl;
      }
