-- The table of a sound tree strictly rises: so it is one list for one map.
use Rattle.std.specs.Prelude.{ℕ, ◌≡◌, refl, List, [], ◌∷◌, ◌++◌, Bool, true, false, ◌&&◌, not}
use Rattle.image.specs.Prelude.{sym, ◌∙◌, none, Option·none-ne-some, cases}
use Rattle.image.specs.Bytes.{same, before, shared}
use Rattle.image.specs.Path.{owns, well_formed}
use Rattle.image.specs.Entry.{Message, puts, drops, clears}
use Rattle.image.specs.Table.{Row, find, every_key, under_prefix, leads, rising}
use Rattle.image.specs.Image.{Tree, unread, leaf, interior, Forest, end, tree}
use Rattle.image.specs.Meaning.{high_of, apply, apply_all, rows, rows_in}
use Rattle.image.specs.Sound.{sound_tree, sound_forest}
use Rattle.octets.specs.Order.{and_left, and_right, not-true, same_refl, before-append, before-le, upheld}
use Rattle.laws.specs.Tables.{find-yes, find-no}
use Rattle.laws.specs.Rising.{both, rising-with, rising-without, rising-cleared}
use Rattle.laws.specs.LookupTable.{parts, inner, outside, later-none}

-- what is found passes a test: so each key does
pub every-key : (test : List ℕ → Bool) (t : List Row) → ((q : List ℕ) → test q ≡ false → find q t ≡ none) → every_key test t ≡ true
unfolding every_key
every-key test [] h = refl
every-key test (r ∷ t) h = both (upheld (λ e. Option·none-ne-some r.value (sym (h r.key e) ∙ find-yes r.key r t (same_refl r.key)))) (every-key test t (λ q e. rest q e))
  where
    rest : (q : List ℕ) → test q ≡ false → find q t ≡ none
    rest q e =
        cases (same q r.key) (λ a. absurd (Option·none-ne-some r.value (sym (h q e) ∙ find-yes q r t a)))
        (λ a. sym (find-no q r t a) ∙ h q e)

-- keys before m, then keys from m on
pub leads-append : (k m : List ℕ) (t u : List Row) → leads k t ≡ true → before k m ≡ true → every_key (λ q. not (before q m)) u ≡ true → leads k (t ++ u) ≡ true
unfolding leads every_key
leads-append k m [] [] e f g = refl
leads-append k m [] (q ∷ u) e f g = before-le k m q.key f (not-true (before q.key m) (and_left _ _ g))
leads-append k m (r ∷ t) u e f g = e

pub rising-append : (m : List ℕ) (t u : List Row) → rising t ≡ true → rising u ≡ true → every_key (λ q. before q m) t ≡ true
    → every_key (λ q. not (before q m)) u ≡ true → rising (t ++ u) ≡ true
unfolding rising every_key
rising-append m [] u e f g h = f
rising-append m (r ∷ t) u e f g h =
    both (leads-append r.key m t u (and_left _ _ e) (and_left _ _ g) h)
    (rising-append m t u (and_right (leads r.key t) _ e) f (and_right (before r.key m) _ g) h)

pub rising-under : (l : List ℕ) (t : List Row) → rising t ≡ true → rising (under_prefix l t) ≡ true
unfolding rising leads under_prefix
rising-under l [] e = refl
rising-under l (r ∷ []) e = refl
rising-under l (r ∷ q ∷ t) e =
    both (before-append l r.key q.key ∙ and_left _ _ e) (rising-under l (q ∷ t) (and_right (before r.key q.key) _ e))

pub rising-apply : (l : List ℕ) (m : Message) (t : List Row) → rising t ≡ true → rising (apply l m t) ≡ true
unfolding apply
rising-apply l (puts s v) t e = rising-with (l ++ s) v t e
rising-apply l (drops s) t e = rising-without (l ++ s) t e
rising-apply l (clears s) t e = rising-cleared (l ++ s) t e

pub rising-all : (l : List ℕ) (ms : List Message) (t : List Row) → rising t ≡ true → rising (apply_all l ms t) ≡ true
unfolding apply_all
rising-all l [] t e = e
rising-all l (m ∷ ms) t e = rising-all l ms (apply l m t) (rising-apply l m t e)

pub leaf-rises : (i : ℕ) (rs : List Row) (lo hi : List ℕ) → sound_tree (leaf i rs) lo hi ≡ true → rising rs ≡ true
unfolding sound_tree
leaf-rises i rs lo hi e =
    and_right (every_key well_formed (under_prefix (shared lo hi) rs) && every_key (owns lo hi) (under_prefix (shared lo hi) rs)) _ (and_left _ _ e)

pub not_before : (lo hi q : List ℕ) → before q hi ≡ false → owns lo hi q ≡ false
unfolding owns
not_before lo hi q e = go (not (before q lo))
  where
    go : (x : Bool) → x && before q hi ≡ false
    go true = e
    go false = refl

nil-rises : rising [] ≡ true
unfolding rising
nil-rises = refl

pub is_true : (b : Bool) → not b ≡ false → b ≡ true
is_true true e = refl
is_true false e = sym e

mutual
  unfolding rows rows_in

  pub rows-rise : (t : Tree) (lo hi : List ℕ) → sound_tree t lo hi ≡ true → rising (rows t lo hi) ≡ true
  rows-rise (unread i) lo hi e = nil-rises
  rows-rise (leaf i rs) lo hi e = rising-under (shared lo hi) rs (leaf-rises i rs lo hi e)
  rows-rise (interior i f ms) lo hi e =
      rising-all (shared lo hi) ms (rows_in f (shared lo hi) hi) (rows-rise-in f (shared lo hi) lo hi (inner i f ms lo hi e).branches)

  pub rows-rise-in : (f : Forest) (lifted lo hi : List ℕ) → sound_forest f lifted lo hi ≡ true → rising (rows_in f lifted hi) ≡ true
  rows-rise-in end lifted lo hi e = nil-rises
  rows-rise-in (tree s t f) lifted lo hi e =
      rising-append (high_of lifted hi f) (rows t (lifted ++ s) (high_of lifted hi f)) (rows_in f lifted hi)
      (rows-rise t (lifted ++ s) (high_of lifted hi f) (parts s t f lifted lo hi e).first)
      (rows-rise-in f lifted lo hi (parts s t f lifted lo hi e).later)
      (every-key (λ q. before q (high_of lifted hi f)) (rows t (lifted ++ s) (high_of lifted hi f))
      (λ q n. outside t (lifted ++ s) (high_of lifted hi f) q (parts s t f lifted lo hi e).first (not_before (lifted ++ s) (high_of lifted hi f) q n)))
      (every-key (λ q. not (before q (high_of lifted hi f))) (rows_in f lifted hi)
      (λ q n. later-none f lifted lo hi q (parts s t f lifted lo hi e).later (is_true (before q (high_of lifted hi f)) n)))
