-- What the readers hand to get and next, in the words of the questions.
use Rattle.std.specs.Prelude.{ℕ, ◌<◌, ◌≤◌, ◌≡◌, List, Bool, true, false, length}
use Rattle.image.specs.Prelude.{sym, ap, ◌∙◌, none, some}
use Rattle.image.specs.Path.{well_formed, path_or_empty, value_limit}
use Rattle.image.specs.Table.{find, least_after}
use Rattle.image.specs.Sound.{sound, value_in, table_of}
use Rattle.image.specs.Calls.{get, next, found_by}
use Rattle.laws.specs.LookupTable.{means-table}
use Rattle.laws.specs.ValuesFit.{table_fits, found-fits}
use Rattle.query.specs.Asked.{paths_fit, buffer_limit}

-- questions 3 and 5 of a get
pub get-path : (p : List ℕ) (z : Bool) → z ≡ well_formed p → z ≡ paths_fit (get p)
unfolding paths_fit
get-path p z e = e

pub get-short : (p buffer : List ℕ) → length buffer < value_limit → length buffer < buffer_limit (get p)
unfolding buffer_limit
get-short p buffer h = h

pub get-room : (p buffer : List ℕ) → value_limit ≤ length buffer → buffer_limit (get p) ≤ length buffer
unfolding buffer_limit
get-room p buffer h = h

-- the value of a path that is present: it fits the buffer
pub record Value (s p v : List ℕ) : Type 0 where
  pub there : found_by (get p) (table_of s) ≡ some v
  pub short : length v ≤ value_limit

pub value_there : (s p v : List ℕ) → sound s ≡ true → some v ≡ value_in s p → Value s p v
unfolding found_by
value_there s p v ok f =
    let found : find p (table_of s) ≡ some v = sym (means-table s ok p) ∙ sym f in
    record { there = found; short = found-fits p v (table_of s) (table_fits s ok) found }

pub value-absent : (s p : List ℕ) → sound s ≡ true → none ≡ value_in s p → found_by (get p) (table_of s) ≡ none
unfolding found_by
value-absent s p ok f = sym (means-table s ok p) ∙ sym f

-- question 5 of a next
pub next-short : (p q buffer : List ℕ) → length buffer < 64 → length buffer < buffer_limit (next p q)
unfolding buffer_limit
next-short p q buffer h = h

pub next-room : (p q buffer : List ℕ) → 64 ≤ length buffer → buffer_limit (next p q) ≤ length buffer
unfolding buffer_limit
next-room p q buffer h = h

pub path-absent : (s p q : List ℕ) → none ≡ least_after p q (table_of s) → found_by (next p q) (table_of s) ≡ none
unfolding found_by
path-absent s p q e = sym e

pub path-there : (s p q k y : List ℕ) → some k ≡ least_after p q (table_of s) → y ≡ k → found_by (next p q) (table_of s) ≡ some y
unfolding found_by
path-there s p q k y e h = sym e ∙ ap (λ z. some z) (sym h)
