-- Which paths a call touches, told from the call and its answer alone, and that a path that is not touched keeps what it has.
-- For the theorems of demand 2 about single paths. Relies on the laws of the changes of a table (laws, FindMoved).
-- The laws of specs/Touches that rest on a definition which a must-fail edit changes.
use Rattle.std.specs.Prelude.{ℕ, zero, suc, ◌≡◌, refl, List, true, false, ◌&&◌, not, eqb}
use Rattle.image.specs.Prelude.{ap, ◌∙◌}
use Rattle.image.specs.Table.{Row, find}
use Rattle.image.specs.Sound.{table_of}
use Rattle.image.specs.Calls.{Call, acts, keeps, asks, Answer, table_after, table_at}
use Rattle.image.specs.Contract.{first_no_on, Meets, Run, stop, call}
use Rattle.octets.specs.Order.{and_left, and_right, not-true}
use Rattle.demands.specs.Consequences.{number_is}
use Rattle.demands.specs.Touches.{act-spares, call_touches, touches, untouched}

after-spares : (c : Call) (p : List ℕ) (t : List Row) → call_touches c p ≡ false → find p (table_after c t) ≡ find p t
unfolding call_touches table_after
after-spares (acts x work) p t e = act-spares x p t e
after-spares (keeps u i work) p t e = refl
after-spares (asks q buffer) p t e = refl

-- a call that answers the number k
pub call-spares : (k : ℕ) (c : Call) (p : List ℕ) (t : List Row) → eqb k 0 && call_touches c p ≡ false → find p (table_at k c t) ≡ find p t
unfolding table_at
call-spares zero c p t e = after-spares c p t e
call-spares (suc k) c p t e = refl

pub meets-spares : {s s' w' : List ℕ} {c : Call} {a : Answer} (p : List ℕ) → Meets s c a s' w' → touches c a p ≡ false
    → find p (table_of s') ≡ find p (table_of s)
unfolding touches
meets-spares {s} {c = c} {a = a} p m e =
    ap (find p) m.table ∙ call-spares (first_no_on s c) c p (table_of s) (rw (← number_is m) e)

pub run-spares : {s s' : List ℕ} {cs : List Call} {given : List Answer} (p : List ℕ) → Run s cs given s' → untouched p cs given ≡ true
    → find p (table_of s') ≡ find p (table_of s)
unfolding untouched
run-spares p stop e = refl
run-spares p (call {c = c} {a = a} m r) e =
    run-spares p r (and_right (not (touches c a p)) _ e) ∙ meets-spares p m (not-true (touches c a p) (and_left _ _ e))
