-- Demand 2, what is put is kept: after an accepted put of p, v, on any bytes whatever, and any calls that do not touch p, a get of p with
-- room for a value gives v; and so with what a first image holds. Relies on the contracts of the calls (image), on Touches and on laws/Formed.
use Rattle.std.specs.Prelude.{ℕ, ◌≡◌, List}
use Rattle.image.specs.Prelude.{ap, ◌∙◌, some}
use Rattle.image.specs.Table.{find}
use Rattle.image.specs.Sound.{table_of}
use Rattle.image.specs.Calls.{acts, put, Answer, number_of, act_table, table_after, table_at}
use Rattle.image.specs.Contract.{Meets}
use Rattle.laws.specs.Tables.{find-with}
use Rattle.demands.specs.Consequences.{all_yes}

-- the put's value is in the table that it leaves
pub put_there : {s w s₁ w₁ p v : List ℕ} {a : Answer} → Meets s (acts (put p v) w) a s₁ w₁ → number_of a ≡ 0 → find p (table_of s₁) ≡ some v
unfolding table_at table_after act_table
put_there {s} {p = p} {v = v} m e = ap (find p) (m.table ∙ rw (all_yes m e)) ∙ find-with p v (table_of s)
