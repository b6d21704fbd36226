-- The loop of `put_rows`: the text so far and the text of the rows ahead are the whole text. The measure is how many rows are ahead. Relies on
-- specs/Rows.
use Rattle.std.specs.Prelude.{◌-◌, ◌≤◌, ◌≡◌, length, take, drop}
use Rattle.script.specs.Rows.{ahead, Walk}
use Rattle.image.specs.Sound.{table_of}
use Rattle.script.proofs.put_rows.Given as goal

abbrev pub invariant-loop-n : goal.invariant-loop-n
invariant-loop-n l = (l.size ≤ 64) × (length l.last ≡ 64) × (length l.out ≡ length l.initial.out) × Walk l.store l.path (take (l.size - 0) (drop 0 l.last)) l.at l.out

abbrev pub decreases-loop-n : goal.decreases-loop-n
decreases-loop-n l = length (ahead l.path (take (l.size - 0) (drop 0 l.last)) (table_of l.store))
