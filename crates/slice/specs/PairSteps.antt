-- Step lemmas of a leaf's part: which entries are written, one after the other. Relies on Point.
use Rattle.std.specs.Prelude.{ℕ, ◌≡◌, refl, List, [], ◌∷◌, ◌++◌, Bool, true, false, drop}
use Rattle.std.specs.Borrow.{Bor}
use Rattle.image.specs.Prelude.{sym, ap, ◌∙◌}
use Rattle.image.specs.Entry as defined
use Rattle.laws.specs.Encode.{bytes_of}
use Rattle.node.specs.Lent.{entry_is}
use Rattle.node.specs.declared.entries.Entry.{Entry}
use Rattle.slice.specs.Point.{side_line}

pub side-none : (test : List ℕ → Bool) (d : ℕ) (es : List defined.Entry) → es ≡ [] → side_line test d es ≡ []
unfolding side_line
side-none test d es q = rw q

module _ (test : List ℕ → Bool) (d : ℕ) (e : Entry) (es ts : List defined.Entry) (q : es ≡ entry_is e ∷ ts) where
  other : (x : Entry) → ((k v : Bor (List ℕ)) → x ≡ Entry.Pair k v → ⊥) → side_line test d (entry_is x ∷ ts) ≡ side_line test d ts
  unfolding side_line
  other (Entry.Pair k v) h = absurd (h k v refl)
  other (Entry.Child i k) h = refl
  other (Entry.Message m) h = refl

  pub side-other : ((k v : Bor (List ℕ)) → e ≡ Entry.Pair k v → ⊥) → side_line test d es ≡ side_line test d ts
  side-other h = ap (side_line test d) q ∙ other e h

  module _ (k v : Bor (List ℕ)) (p : e ≡ Entry.Pair k v) where
    pub side-not : false ≡ test k.now → side_line test d es ≡ side_line test d ts
    unfolding side_line
    side-not n = rw (q, p, sym n) refl

    pub side-yes : true ≡ test k.now → side_line test d es ≡ bytes_of (defined.pair (drop d k.now) v.now) ++ side_line test d ts
    unfolding side_line
    side-yes n = rw (q, p, sym n) refl

-- WHAT IS PUSHED, under the name of what is meant
pub pushed-pair : (k k' v : List ℕ) → k' ≡ k → bytes_of (defined.pair k v) ≡ bytes_of (defined.pair k' v)
pushed-pair k k' v e = ap (λ l. bytes_of (defined.pair l v)) (sym e)
