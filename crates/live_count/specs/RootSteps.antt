-- Step lemmas of the count from the root: what the first call asks, and that its answer is the length of the table.
-- Relies on `Countable` (Walk), on live-root (LiveLaws), and on the bytes of the header (lookup: Root).
use Rattle.std.specs.Prelude.{ℕ, ◌≤◌, ◌≡◌, refl, List, [], ◌++◌, true, ◌&&◌, length, drop}
use Rattle.image.specs.Prelude.{sym, ap, ap₂, ◌∙◌, arith, and-true}
use Rattle.image.specs.Bytes.{u16, shared}
use Rattle.image.specs.Image.{Tree, nodes_of, header, header_of, tree_at, tree_of}
use Rattle.image.specs.Sound.{sound_tree, lowest, highest, table_of}
use Rattle.laws.specs.ButLive.{sound_but_live, parts_of}
use Rattle.octets.specs.Cap.{cap}
use Rattle.laws.specs.Reading.Relative.{lifts, usable, sound-usable}
use Rattle.lookup.specs.Look.{node-inside}
use Rattle.lookup.specs.Root.{first-u16}
use Rattle.live_count.specs.Live.{short, live_here}
use Rattle.live_count.specs.LiveLaws.{live-root}
use Rattle.live_count.specs.declared.trail.Trail.{Trail}
use Rattle.live_count.specs.declared.position.Position.{Position}
use Rattle.live_count.specs.Noted.{AtRoot, Tells, SoundNode}
use Rattle.live_count.specs.Steps.{no-trail}
use Rattle.live_count.specs.NotedSteps.{empty-quiet}
use Rattle.live_count.specs.Walk.{passing, Ready, Countable}

-- an image that is sound but for its live count can be counted
pub countable : (s : List ℕ) → sound_but_live s ≡ true → Countable s
countable s e = let p = parts_of s e in record { tree = p.tree; range = p.range; levels = p.levels_high }

module _ (s : List ℕ) (h : Countable s) where
  pub tree-reads : usable (nodes_of (length s)) (tree_of s) ≡ true
  tree-reads = sound-usable (tree_of s) (nodes_of (length s)) lowest highest h.tree h.range

  pub one-node : 1024 ≤ length s
  unfolding tree_of
  one-node = let w = node-inside s (header_of s).root (header_of s).levels tree-reads in omega arith

  module _ (root levels : ℕ) (a : root ≡ u16 s 6) (b : levels ≡ u16 s 8) where
    levels-are : levels ≡ (header_of s).levels
    unfolding header_of header
    levels-are = b ∙ sym (first-u16 s 8 one-node (omega arith))

    root_is : root ≡ (header_of s).root
    unfolding header_of header
    root_is = a ∙ sym (first-u16 s 6 one-node (omega arith))

    pub tree_is : tree_at levels s root ≡ tree_of s
    unfolding tree_of
    tree_is = ap₂ (λ x y. tree_at x s y) levels-are root_is

    pub root-ready : (t : Trail) → t.depth ≡ 0 → Ready s levels root t
    root-ready t f =
        record {
          reads = ap (λ x. usable (nodes_of (length s)) x) tree_is ∙ tree-reads;
          deep = let l = levels-are in let g = h.levels in omega arith;
        }

    pub root-sound : (p : Position) → AtRoot p → SoundNode s levels root p.prefix [] highest
    root-sound p e =
        ap (λ x. sound_tree x (p.prefix ++ []) (p.prefix ++ highest)) tree_is
        ∙ ap (λ x. sound_tree (tree_of s) (x ++ []) (x ++ highest)) e.prefix ∙ h.tree

    from-root : (t : Tree) → live_here t short ([] ++ shared [] highest) (drop (lifts [] highest) highest) ≡ live_here t short [] highest
    unfolding lifts shared
    from-root t = refl

    pub root-counts : (p : Position) (r : ℕ) → AtRoot p
        → r ≡ cap (live_here (tree_at levels s root) (passing p.trail) (p.prefix ++ shared [] highest) (drop (lifts [] highest) highest)) → r ≡ cap (length (table_of s))
    unfolding table_of
    root-counts p r e c =
        c ∙ ap₂ (λ x y. cap (live_here x y (p.prefix ++ shared [] highest) (drop (lifts [] highest) highest))) tree_is (λ i q. no-trail p.trail e.trail q i)
        ∙ ap (λ x. cap (live_here (tree_of s) short (x ++ shared [] highest) (drop (lifts [] highest) highest))) e.prefix
        ∙ ap cap (from-root (tree_of s) ∙ live-root (tree_of s) highest h.tree)

-- above the root there is nothing to tell
pub root_told : (p : Position) (lo hi : List ℕ) → AtRoot p → Tells p lo hi
root_told p lo hi e = λ s k o.
    no-trail p.trail e.trail (p.prefix ++ k) ∙ sym (ap (λ x. short (p.prefix ++ k) && x) (empty-quiet p.notes k e.notes) ∙ and-true (short (p.prefix ++ k)))
