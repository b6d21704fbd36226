-- What a caller of `push_down` cites, by its answer.
use Rattle.std.specs.Prelude.{ℕ, ◌≡◌, List, Bool, true, false}
use Rattle.image.specs.Prelude.{subst}
use Rattle.push.specs.Laws.PushedDown.{PushedDown}
use Rattle.push.specs.Outcome.{Outcome}

-- all messages are with the children
pub done-is : (s : List ℕ) (n : ℕ) (r : Bool) (s' : List ℕ) → Outcome s n r s' → r ≡ true → PushedDown s n s'
unfolding Outcome
done-is s n r s' h e = subst (λ z. Outcome s n z s') e h

-- no byte is changed
pub no-room-is : (s : List ℕ) (n : ℕ) (r : Bool) (s' : List ℕ) → Outcome s n r s' → r ≡ false → s' ≡ s
unfolding Outcome
no-room-is s n r s' h e = subst (λ z. Outcome s n z s') e h
