-- Question 9 of the rows below `from` alone: the rows that stay are well formed already, and of a row that moves only the rest after `from`
-- is judged, after `to` was fed to the shape of a path.
-- Relies on path/specs/Shape (feeding in pieces) and slice/specs/Moving/MovedRows (rows below a path, as a test).
use Rattle.std.specs.Prelude.{ℕ, ◌≡◌, refl, List, [], ◌∷◌, Bool, true, ◌&&◌, not, length, drop}
use Rattle.image.specs.Prelude.{sym, ap₂, ◌∙◌}
use Rattle.image.specs.Bytes.{begins}
use Rattle.image.specs.Path.{well_formed}
use Rattle.image.specs.Table.{Row, every_key, rows_below, without_below, renamed, put_all, moved}
use Rattle.octets.specs.Order.{and_left, and_right}
use Rattle.laws.specs.Filter.{every-with, keep-passes}
use Rattle.laws.specs.Rising.{both_ways}
use Rattle.path.specs.Shape.{Shape, fresh, feed, goes_on, shape-is}
use Rattle.slice.specs.Moving.MovedRows.{keep-other, renamed-formed}

-- the rest of a path, after its first n bytes, goes on from a shape
unfoldable pub rest_fits : Shape → ℕ → List ℕ → Bool
rest_fits sh n key = goes_on sh (drop n key)

-- all rows below `from` do
unfoldable pub rests_fit : Shape → List ℕ → List Row → Bool
rests_fit sh from t = every_key (rest_fits sh (length from)) (rows_below from t)

renamed-rests : (from to : List ℕ) (t : List Row) → every_key well_formed (renamed from to t) ≡ every_key (rest_fits (feed fresh to) (length from)) t
unfolding every_key renamed rest_fits
renamed-rests from to [] = refl
renamed-rests from to (r ∷ t) = ap₂ (λ x y. x && y) (sym (shape-is to (drop (length from) r.key))) (renamed-rests from to t)

put-formed : (rs t : List Row) → every_key well_formed rs ≡ true → every_key well_formed t ≡ true → every_key well_formed (put_all rs t) ≡ true
unfolding put_all every_key
put-formed [] t e f = f
put-formed (r ∷ rs) t e f = every-with well_formed r.key r.value (put_all rs t) (and_left _ _ e) (put-formed rs t (and_right (well_formed r.key) _ e) f)

other-formed : (p : List ℕ) (t : List Row) → every_key well_formed t ≡ true → every_key well_formed (without_below p t) ≡ true
other-formed p t e = rw (keep-other p t) (keep-passes well_formed (λ q. not (begins p q)) well_formed t (λ q a b. a) e)

moved-formed : (from to : List ℕ) (t : List Row) → every_key well_formed t ≡ true → every_key well_formed (renamed from to (rows_below from t)) ≡ true
    → every_key well_formed (moved from to t) ≡ true
unfolding moved
moved-formed from to t e f =
    put-formed (renamed from to (rows_below from t)) (without_below to (without_below from t)) f (other-formed to (without_below from t) (other-formed from t e))

-- QUESTION 9
pub nine-is : (from to : List ℕ) (t : List Row) → every_key well_formed t ≡ true → every_key well_formed (moved from to t) ≡ rests_fit (feed fresh to) from t
unfolding rests_fit
nine-is from to t e =
    both_ways (every_key well_formed (moved from to t)) (every_key well_formed (renamed from to (rows_below from t))) (renamed-formed from to t) (moved-formed from to t e)
    ∙ renamed-rests from to (rows_below from t)
