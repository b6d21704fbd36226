-- The numbers of the nodes that are not marked; with the marks of the nodes in use they are the free nodes, rising.
-- Relies on Marks of tree_check's Whole (what the marks say) and on slice/Moving's free list.
use Rattle.std.specs.Prelude.{ℕ, zero, suc, ◌+◌, ◌-◌, ◌≤◌, ◌<◌, ◌≡◌, refl, List, [], ◌∷◌, Bool, true, false, cond, length, get_or, eqb}
use Rattle.image.specs.Prelude.{sym, ap, ◌∙◌, arith, eq-eqb, ne_eqb}
use Rattle.image.specs.Image.{nodes_of, tree_of}
use Rattle.image.specs.Sound.{is_in, numbers}
use Rattle.packed.specs.Build.HandedLaws.{listed-length}
use Rattle.packed.specs.Build.Handed.{listed}
use Rattle.tree_check.specs.Whole.{Marks}
use Rattle.slice.specs.Moving.FreeList.{free_from, free_list}

-- of the c numbers from i up, those whose byte is 0
unfoldable pub unmarked : ℕ → ℕ → List ℕ → List ℕ
unmarked zero i seen = []
unmarked (suc c) i seen = cond (eqb (get_or seen i 0) 0) (i ∷ unmarked c (suc i) seen) (unmarked c (suc i) seen)

unmarked-free : (seen is : List ℕ) (c i : ℕ) → ((j : ℕ) → i ≤ j → j < i + c → get_or seen j 0 ≡ cond (is_in j is) 1 0) → unmarked c i seen ≡ free_from c i is
unfolding unmarked free_from
unmarked-free seen is zero i h = refl
unmarked-free seen is (suc c) i h =
    go (is_in i is) refl (h i (omega arith) (omega arith)) (unmarked-free seen is c (suc i) (λ j a b. h j (omega arith) (omega arith)))
  where
    go : (b : Bool) → is_in i is ≡ b → get_or seen i 0 ≡ cond (is_in i is) 1 0 → unmarked c (suc i) seen ≡ free_from c (suc i) is
        → cond (eqb (get_or seen i 0) 0) (i ∷ unmarked c (suc i) seen) (unmarked c (suc i) seen) ≡ cond (is_in i is) (free_from c (suc i) is) (i ∷ free_from c (suc i) is)
    go true q m ih = let z : get_or seen i 0 ≡ 1 = m ∙ rw q in rw (ne_eqb (get_or seen i 0) 0 (λ e. omega arith), q) ih
    go false q m ih = let z : get_or seen i 0 ≡ 0 = m ∙ rw q in rw (eq-eqb (get_or seen i 0) 0 z, q) (ap (λ l. i ∷ l) ih)

-- the marks show the free nodes
pub marks-free : (s seen : List ℕ) (n : ℕ) → Marks s seen → n ≡ nodes_of (length s) → 1 ≤ n → unmarked (n - 1) 1 seen ≡ free_list s
unfolding free_list
marks-free s seen n h e some =
    unmarked-free seen (numbers (tree_of s)) (n - 1) 1 (λ j a b. h.marked j (omega arith)) ∙ ap (λ k. free_from (k - 1) 1 (numbers (tree_of s))) e

-- what free_list answers, on a marked store
pub free-listed : (s seen bytes : List ℕ) (n r : ℕ) → Marks s seen → n ≡ nodes_of (length s) → 1 ≤ n → listed r bytes 0 ≡ unmarked (n - 1) 1 seen
    → listed r bytes 0 ≡ free_list s
free-listed s seen bytes n r h e some l = l ∙ marks-free s seen n h e some

pub free-count : (s bytes : List ℕ) (r : ℕ) → listed r bytes 0 ≡ free_list s → r ≡ length (free_list s)
free-count s bytes r e = sym (listed-length r bytes 0) ∙ ap length e
