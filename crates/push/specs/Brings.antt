-- What an entry of a node brings to a child, as the code answers it: a message in the child's own form, or nothing. Definitions only.
use Rattle.std.specs.Prelude.{ℕ, ◌≡◌, List, [], MatchOption, Option}
use Rattle.image.specs.Entry as defined
use Rattle.laws.specs.Encode.{bytes_of}
use Rattle.node.specs.Lent.{message_is}
use Rattle.node.specs.declared.entries.Message.{Message}
use Rattle.push.specs.Laws.Arriving.{brought}
use Rattle.push.specs.Laws.Leaves.{applied, leaf_takes_one}

pub record Silent (e : defined.Entry) (lo hi : List ℕ) : Type 0 where
  pub bytes : brought e lo hi ≡ []
  pub takes : (i : ℕ) (s : List ℕ) → leaf_takes_one e i lo hi s ≡ s

pub record Arrives (e : defined.Entry) (lo hi : List ℕ) (m : Message) : Type 0 where
  pub bytes : brought e lo hi ≡ bytes_of (defined.message (message_is m))
  pub takes : (i : ℕ) (s : List ℕ) → leaf_takes_one e i lo hi s ≡ applied (message_is m) i s

abbrev pub Brings : defined.Entry → List ℕ → List ℕ → Option Message → Type 0
Brings e lo hi r = MatchOption r (Silent e lo hi) (λ m. Arrives e lo hi m)
