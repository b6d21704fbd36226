-- Document 01, "The map and the calls" and "The plain path map": a table of paths with their values, each path at most once. The paper
-- leaves its order free; here the paths rise, so that two tables that hold the same are equal lists.
use Rattle.std.specs.Prelude.{ℕ, List, [], ◌∷◌, ◌++◌, Bool, true, false, ◌&&◌, cond, length, drop}
use Rattle.image.specs.Prelude.{Option, none, some}
use Rattle.image.specs.Bytes.{same, before}
use Rattle.image.specs.Path.{below}

-- a path, or a suffix of one, with its value
pub record Row : Type 0 where
  pub key : List ℕ
  pub value : List ℕ

-- the value of path p
unfoldable pub find : List ℕ → List Row → Option (List ℕ)
find p [] = none
find p (r ∷ t) = cond (same p r.key) (some r.value) (find p t)

unfoldable pub is_some : Option (List ℕ) → Bool
is_some none = false
is_some (some v) = true

-- put: the path's row gets this value, a new row, at its place, if there is none
unfoldable pub with_row : List ℕ → List ℕ → List Row → List Row
with_row p v [] = record { key = p; value = v } ∷ []
with_row p v (r ∷ t) =
    cond (before r.key p) (r ∷ with_row p v t)
    (cond (same p r.key) (record { key = p; value = v } ∷ t) (record { key = p; value = v } ∷ r ∷ t))

-- drop: the path's row, if any, goes
unfoldable pub without : List ℕ → List Row → List Row
without p [] = []
without p (r ∷ t) = cond (same p r.key) (without p t) (r ∷ without p t)

-- the rows below p, and the others: clear leaves the others
unfoldable pub rows_below : List ℕ → List Row → List Row
rows_below p [] = []
rows_below p (r ∷ t) = cond (below r.key p) (r ∷ rows_below p t) (rows_below p t)

unfoldable pub without_below : List ℕ → List Row → List Row
without_below p [] = []
without_below p (r ∷ t) = cond (below r.key p) (without_below p t) (r ∷ without_below p t)

-- each row with to in place of from at its front
unfoldable pub renamed : List ℕ → List ℕ → List Row → List Row
renamed from to [] = []
renamed from to (r ∷ t) = record { key = to ++ drop (length from) r.key; value = r.value } ∷ renamed from to t

-- the rows of the first table put into the second
unfoldable pub put_all : List Row → List Row → List Row
put_all [] t = t
put_all (r ∷ rs) t = with_row r.key r.value (put_all rs t)

-- move: the rows below from are set aside, the rows left below to go, then each row set aside comes back with to in place of from
unfoldable pub moved : List ℕ → List ℕ → List Row → List Row
moved from to t = put_all (renamed from to (rows_below from t)) (without_below to (without_below from t))

-- the rows greater than q; with the empty path for q, all rows
unfoldable pub rows_after : List ℕ → List Row → List Row
rows_after q [] = []
rows_after q (r ∷ t) = cond (before q r.key) (r ∷ rows_after q t) (rows_after q t)

unfoldable pub first_key : List Row → Option (List ℕ)
first_key [] = none
first_key (r ∷ t) = some r.key

-- next: the least path below p and greater than q
unfoldable pub least_after : List ℕ → List ℕ → List Row → Option (List ℕ)
least_after p q t = first_key (rows_after q (rows_below p t))

-- a test of every path
unfoldable pub every_key : (List ℕ → Bool) → List Row → Bool
every_key test [] = true
every_key test (r ∷ t) = test r.key && every_key test t

-- each row with these bytes in front of its key
unfoldable pub under_prefix : List ℕ → List Row → List Row
under_prefix pre [] = []
under_prefix pre (r ∷ t) = record { key = pre ++ r.key; value = r.value } ∷ under_prefix pre t

-- the keys strictly rise
unfoldable pub leads : List ℕ → List Row → Bool
leads k [] = true
leads k (r ∷ t) = before k r.key

unfoldable pub rising : List Row → Bool
rising [] = true
rising (r ∷ t) = leads r.key t && rising t
