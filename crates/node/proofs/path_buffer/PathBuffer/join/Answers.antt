-- `join` meets its contract: both parts are copied where they fit, and zeros stay behind them. Relies on specs/Fitted.
use Rattle.std.specs.Prelude.{refl}
use Rattle.node.specs.Fitted.{joined-long, joined-is, joined-length, joined-laid}
use Rattle.node.proofs.path_buffer.PathBuffer.join.Goals as goal

pub returns-then-len-gt-PATH_LIMIT : goal.returns-then-len-gt-PATH_LIMIT
returns-then-len-gt-PATH_LIMIT c = joined-long _ _ c.if-len-gt-PATH_LIMIT.true

pub returns : goal.returns
returns c = rw (c.copy_at-2.ensures, c.copy_at.ensures) (joined-is _ _ _ _ refl refl c.if-len-gt-PATH_LIMIT.false)

pub invariant_of-result : goal.invariant_of-result
invariant_of-result c =
    let h = c.if-len-gt-PATH_LIMIT.false in
    rw (c.copy_at-2.ensures, c.copy_at.ensures) (h, joined-length _ _ _ _ refl refl h, joined-laid _ _ _ _ refl refl h)
