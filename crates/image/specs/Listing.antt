-- Document 01: "A listing holds its place, the last path given. The place is lent to each step, which moves it on. A refused step does not
-- change it." The definitions that the listing's contracts cite. Relies on: the questions and answers of next.
use Rattle.std.specs.Prelude.{ℕ, zero, suc, ◌≡◌, List, [], ◌∷◌, true, cond, take, drop, replicate, leb}
use Rattle.image.specs.Prelude.{Option, some}
use Rattle.image.specs.Bytes.{before}
use Rattle.image.specs.Path.{path_limit}
use Rattle.image.specs.Table.{Row, least_after}
use Rattle.image.specs.Sound.{table_of}
use Rattle.image.specs.Calls.{asks, next}
use Rattle.image.specs.Contract.{first_no_on}
use Rattle.image.specs.declared.Listing.{Listing}

-- The path at a place: its first len bytes, the empty string before the first step. A length over 64 is of no path; such a place gets
-- what next answers to a malformed one, here the single byte 00.
unfoldable pub last_path : Listing → List ℕ
last_path p = cond (leb p.len path_limit) (take p.len p.last) (0 ∷ [])

-- a buffer that is long enough for any path, so that question 5 is a yes
unfoldable pub blank : List ℕ
blank = replicate 64 0

-- the number that a step answers: that of next with the place's path as its second
unfoldable pub step_no : List ℕ → List ℕ → Listing → ℕ
step_no s below p = first_no_on s (asks (next below (last_path p)) blank)

-- the path at the place after a step of which k is the first no
unfoldable pub path_at : ℕ → List ℕ → List ℕ → List Row → Option (List ℕ)
path_at zero below q t = least_after below q t
path_at (suc k) below q t = some q

-- The contract of a step on the store s, with its place p before and p' after. An accepted step writes the path alone: as with next's buffer, the
-- later bytes of the place keep what they had.
pub record Steps (s below : List ℕ) (p : Listing) (number : ℕ) (p' : Listing) : Type 0 where
  pub answer : number ≡ step_no s below p
  pub path : some (last_path p') ≡ path_at (step_no s below p) below (last_path p) (table_of s)
  pub behind : step_no s below p ≡ 0 → drop p'.len p'.last ≡ drop p'.len p.last
  pub rises : step_no s below p ≡ 0 → before (last_path p) (last_path p') ≡ true
  pub stays : (k : ℕ) → step_no s below p ≡ suc k → p' ≡ p
