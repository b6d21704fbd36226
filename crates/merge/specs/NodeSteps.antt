-- Step lemmas of the heal of a node: the copy of its page lists its entries, and the node's high pivot as it was found.
-- Relies on Laws/Mended.
use Rattle.std.specs.Prelude.{ℕ, ◌+◌, ◌*◌, ◌≤◌, ◌<◌, ◌≡◌, refl, List, [], Bool, true, false, length}
use Rattle.image.specs.Prelude.{sym, ap, ap₂, subst, ◌∙◌, Option, none, some, arith}
use Rattle.image.specs.Bytes.{u16}
use Rattle.image.specs.Entry.{Entry}
use Rattle.image.specs.Image.{Branch, tree_of}
use Rattle.image.specs.Sound.{sound, highest}
use Rattle.image.specs.Upkeep.{reachable_at, reachable_nodes}
use Rattle.image.specs.Contract.{is_interior}
use Rattle.laws.specs.Encode.{bytes_of_all}
use Rattle.node.specs.Cut.{cut}
use Rattle.node.specs.Search.Own.{branches_among}
use Rattle.lookup.specs.Look.{listing}
use Rattle.push.specs.Laws.High.{high_here}
use Rattle.push.specs.Laws.Written.{child_bytes}
use Rattle.push.specs.NodeSteps.{copy_lists}
use Rattle.merge.specs.Laws.Joined.{small_entries, first_joined, any_fits}
use Rattle.merge.specs.Laws.Mended.{Mendable, SoFar, HealedNode, Step, node-inside, node-short, node-small, node-fits, steps_on, ends, none-joined, high-there, high_fits}
use Rattle.merge.specs.JoinSteps.{children-light}
use Rattle.merge.specs.Room.{Room}

-- THE COPY OF THE NODE: es are its entries, ks its children
module _ (s : List ℕ) (n : ℕ) (hi : List ℕ) (m : Mendable s n hi) (node : List ℕ) (en : node ≡ cut s (n * 1024) (n * 1024 + 1024)) (es : List Entry) (q : es ≡ listing node 0) where
  lists : es ≡ listing s n
  lists = q ∙ copy_lists s n (node-inside s n hi m) node en (node-short s n hi m)

  entries-fit : length (bytes_of_all es) ≤ 1016
  entries-fit = let f = node-fits s n hi m in let g = ap (λ l. length (bytes_of_all l)) lists in omega arith

  pub room : (level : ℕ) → level < 65536 → Room s n level es
  room level low = record { inside = node-inside s n hi m; low = low; small = ap small_entries lists ∙ node-small s n hi m; fits = entries-fit }

  module _ (ks : List Branch) (p : ks ≡ branches_among es) where
    pub children-fit : length (child_bytes ks) ≤ 1016
    children-fit = let a = ap (λ l. length (child_bytes l)) p in let b = children-light es in let f = entries-fit in omega arith

    pub once-done : (h : List ℕ) → h ≡ hi → (level : ℕ) → level ≡ u16 s (n * 1024 + 4) → (s' : List ℕ) (r : Bool) → s' ≡ first_joined n level es ks h s → r ≡ any_fits ks h s
        → (s' ≡ first_joined n (u16 s (n * 1024 + 4)) (listing s n) (branches_among (listing s n)) hi s) × (r ≡ any_fits (branches_among (listing s n)) hi s)
    once-done h eh level ev s' r a b =
        let k : ks ≡ branches_among (listing s n) = p ∙ ap branches_among lists in (
          a ∙ ap₂ (λ v l. first_joined n v l ks h s) ev lists ∙ ap₂ (λ l x. first_joined n (u16 s (n * 1024 + 4)) (listing s n) l x s) k eh,
          b ∙ ap₂ (λ l x. any_fits l x s) k eh,
        )

-- THE LOOP
module _ (s₀ : List ℕ) (n : ℕ) (hi s s' : List ℕ) (b : Bool) (m : Mendable s n hi) (r : SoFar s₀ n s)
    (e : s' ≡ first_joined n (u16 s (n * 1024 + 4)) (listing s n) (branches_among (listing s n)) hi s) (q : b ≡ any_fits (branches_among (listing s n)) hi s) where
  pub goes : b ≡ true → Step s₀ n hi s s'
  goes h = steps_on s n hi m (sym q ∙ h) (u16 s (n * 1024 + 4)) refl s' e s₀ r

  pub is-done : Mendable s₀ n hi → b ≡ false → HealedNode s₀ n s'
  is-done m₀ h =
      let z : any_fits (branches_among (listing s n)) hi s ≡ false = sym q ∙ h in
      let w : s ≡ s' = sym (e ∙ none-joined n (u16 s (n * 1024 + 4)) (listing s n) (branches_among (listing s n)) hi s z) in
      subst (HealedNode s₀ n) w (ends s₀ n hi s m₀ m r z)

-- THE HIGH PIVOT: a reachable node's is found, and a buffer holds it
pub is-kept : (s : List ℕ) (n : ℕ) → sound s ≡ true → is_interior (reachable_at n (reachable_nodes s)) ≡ true
    → ((h : List ℕ) → high_here n (tree_of s) [] highest ≡ some h → 65 < length h) → (Any : Type 0) → Any
is-kept s n e i long Any = go (high_here n (tree_of s) [] highest) refl
  where
    go : (o : Option (List ℕ)) → high_here n (tree_of s) [] highest ≡ o → Any
    go none q = absurd (high-there s n e i q)
    go (some h) q = let a = long h q in let b = high_fits s n h q in absurd (omega arith)
