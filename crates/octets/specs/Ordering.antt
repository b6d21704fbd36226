-- How two strings stand to each other, as one answer. Relies on image's Bytes.
use Rattle.std.specs.Prelude.{ℕ, List, cond}
use Rattle.image.specs.Bytes.{same, before}
use Rattle.std.specs.declared.cmp.Ordering.{Ordering}
use Rattle.std.specs.declared.cmp.Ordering.TheVariants.{Less, Equal, Greater}

unfoldable pub ordering : List ℕ → List ℕ → Ordering
ordering a b = cond (before a b) Less (cond (same a b) Equal Greater)
