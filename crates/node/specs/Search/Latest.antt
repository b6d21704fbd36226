-- The newest message of a node on a rest, found entry by entry; and whether an entry says anything of it.
use Rattle.std.specs.Prelude.{ℕ, ◌≡◌, refl, List, [], ◌∷◌, Bool, true, false}
use Rattle.image.specs.Prelude.{sym, ap, ◌∙◌, Option}
use Rattle.image.specs.Entry as defined
use Rattle.image.specs.Meaning.{Said, nothing, says, says_of, newer}
use Rattle.node.specs.Lent.{message_is, entry_is}
use Rattle.node.specs.declared.entries.Message as spoken
use Rattle.node.specs.declared.entries.Entry as lent

-- what an entry says of a rest
unfoldable pub entry_says : defined.Entry → List ℕ → Said
entry_says (defined.pair k v) rest = nothing
entry_says (defined.child i k) rest = nothing
entry_says (defined.message m) rest = says_of m rest

unfoldable pub newest_among : List defined.Entry → List ℕ → Said
newest_among [] rest = nothing
newest_among (e ∷ es) rest = newer (entry_says e rest) (newest_among es rest)

-- the loop: the latest so far, then the entries left, say what all the entries say
pub newer-nothing : (x : Said) → newer nothing x ≡ x
unfolding newer
newer-nothing nothing = refl
newer-nothing (says v) = refl

newer-assoc : (a b x : Said) → newer a (newer b x) ≡ newer (newer a b) x
unfolding newer
newer-assoc a b nothing = refl
newer-assoc a b (says v) = refl

-- what an entry that is lent says
other-silent : (e : lent.Entry) (rest : List ℕ) → ((m : spoken.Message) → e ≡ lent.Entry.Message m → ⊥) → entry_says (entry_is e) rest ≡ nothing
unfolding entry_says
other-silent (lent.Entry.Pair k v) rest h = refl
other-silent (lent.Entry.Child i k) rest h = refl
other-silent (lent.Entry.Message m) rest h = absurd (h m refl)

message-says : (e : lent.Entry) (m : spoken.Message) (rest : List ℕ) → e ≡ lent.Entry.Message m → entry_says (entry_is e) rest ≡ says_of (message_is m) rest
unfolding entry_says
message-says e m rest q = rw q

-- the steps of the loop
pub latest-start : (es : List defined.Entry) (rest : List ℕ) → newer nothing (newest_among es rest) ≡ newest_among es rest
latest-start es rest = newer-nothing (newest_among es rest)

pub latest-end : (best answer : Said) (es : List defined.Entry) (rest : List ℕ) → es ≡ [] → newer best (newest_among es rest) ≡ answer → best ≡ answer
unfolding newest_among newer
latest-end best answer es rest q inv = rw q at inv

module _ (best answer : Said) (es ts : List defined.Entry) (rest : List ℕ) (e : lent.Entry) (q : es ≡ entry_is e ∷ ts) (inv : newer best (newest_among es rest) ≡ answer) where
  step-says : (x : Said) → entry_says (entry_is e) rest ≡ x → newer best (newer x (newest_among ts rest)) ≡ answer
  unfolding newest_among
  step-says x h = rw (q, h) at inv

  silent-step : entry_says (entry_is e) rest ≡ nothing → newer best (newest_among ts rest) ≡ answer
  silent-step h = ap (newer best) (sym (newer-nothing (newest_among ts rest))) ∙ step-says nothing h

  pub other-step : ((m : spoken.Message) → e ≡ lent.Entry.Message m → ⊥) → newer best (newest_among ts rest) ≡ answer
  other-step h = silent-step (other-silent e rest h)

  module _ (m : spoken.Message) (f : e ≡ lent.Entry.Message m) where
    pub quiet-step : nothing ≡ says_of (message_is m) rest → newer best (newest_among ts rest) ≡ answer
    quiet-step h = silent-step (message-says e m rest f ∙ sym h)

    pub said-step : (v : Option (List ℕ)) → says v ≡ says_of (message_is m) rest → newer (says v) (newest_among ts rest) ≡ answer
    said-step v h =
        ap (λ x. newer x (newest_among ts rest)) (last v) ∙ sym (newer-assoc best (says v) (newest_among ts rest)) ∙ step-says (says v) (message-says e m rest f ∙ sym h)
      where
        last : (v : Option (List ℕ)) → says v ≡ newer best (says v)
        last v = unfold newer in refl

-- whether anything is said
unfoldable pub covers : Said → Bool
covers nothing = false
covers (says v) = true
