-- Sizes of a node whose children are merged; and a flush taken child by child instead of message by message, as code does it.
use Rattle.std.specs.Prelude.{ℕ, ◌≡◌, refl, List, [], ◌∷◌, ◌++◌}
use Rattle.image.specs.Prelude.{sym, ap, ◌∙◌}
use Rattle.image.specs.Entry.{Message}
use Rattle.image.specs.Image.{Tree, Forest, end, tree}
use Rattle.image.specs.Meaning.{high_of}
use Rattle.laws.specs.PushDown.{sent, pushed, raised, high-pushed}
use Rattle.laws.specs.Upkeep.Flush.{pushed_all}

-- FLUSH: what each child becomes
unfoldable pub sent_all : List ℕ → List Message → Tree → List ℕ → List ℕ → Tree
sent_all l [] t lo hi = t
sent_all l (m ∷ ms) t lo hi = sent_all l ms (sent (raised l m) t lo hi) lo hi

unfoldable pub sent_each : List Message → Forest → List ℕ → List ℕ → Forest
sent_each ms end lifted hi = end
sent_each ms (tree s t f) lifted hi = tree s (sent_all lifted ms t (lifted ++ s) (high_of lifted hi f)) (sent_each ms f lifted hi)

each_none : (f : Forest) (lifted hi : List ℕ) → sent_each [] f lifted hi ≡ f
unfolding sent_each sent_all
each_none end lifted hi = refl
each_none (tree s t f) lifted hi = ap (λ g. tree s t g) (each_none f lifted hi)

each_step : (m : Message) (ms : List Message) (f : Forest) (lifted hi : List ℕ) → sent_each ms (pushed (raised lifted m) f lifted hi) lifted hi ≡ sent_each (m ∷ ms) f lifted hi
unfolding sent_each sent_all pushed
each_step m ms end lifted hi = refl
each_step m ms (tree s t f) lifted hi =
    rw (high-pushed (raised lifted m) f lifted hi lifted hi)
    (ap (λ g. tree s (sent_all lifted ms (sent (raised lifted m) t (lifted ++ s) (high_of lifted hi f)) (lifted ++ s) (high_of lifted hi f)) g) (each_step m ms f lifted hi))

-- Message by message, or child by child: the same.
pub pushed-each : (ms : List Message) (f : Forest) (lifted hi : List ℕ) → pushed_all ms f lifted hi ≡ sent_each ms f lifted hi
unfolding pushed_all
pushed-each [] f lifted hi = sym (each_none f lifted hi)
pushed-each (m ∷ ms) f lifted hi = pushed-each ms (pushed (raised lifted m) f lifted hi) lifted hi ∙ each_step m ms f lifted hi
