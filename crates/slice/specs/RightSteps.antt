-- Step lemmas of the right part: what is composed of a leaf and of an interior node, what the child that holds the cut is asked, and that
-- the pages written are those of `right_write`. Relies on RightPieces, RightLaws and on specs/Slicing's laws of stripped pivots.
use Rattle.std.specs.Prelude.{ℕ, zero, suc, ◌+◌, ◌*◌, ◌-◌, ◌≤◌, ◌≡◌, refl, List, [], ◌∷◌, ◌++◌, Bool, true, false, ◌&&◌, length, take, drop, leb, get_or}
use Rattle.image.specs.Prelude.{sym, ap, ap₂, subst, ◌∙◌, false≢true, arith, length-append, take-append_seam, leb-true, cases}
use Rattle.image.specs.Bytes.{u16, before, shared}
use Rattle.image.specs.Table.{Row, under_prefix}
use Rattle.image.specs.Image.{Tree, unread, leaf, interior, Forest, end, tree, Branch, nodes_of, tree_at, forest_of}
use Rattle.image.specs.Meaning.{high_of}
use Rattle.octets.specs.Order.{and_left, before-append}
use Rattle.laws.specs.Encode.{bytes_of_all}
use Rattle.laws.specs.Filter.{keep, since, lower_rows}
use Rattle.laws.specs.Pieces.{raise}
use Rattle.laws.specs.Page.{page, number_of, pair_entries, branches_of, number_read}
use Rattle.laws.specs.WriteNode.{write_node}
use Rattle.laws.specs.Reading.Relative.{branch_high, high-at, usable, usable_in}
use Rattle.laws.specs.Upkeep.Size.{size_of}
use Rattle.image.specs.Entry as defined
use Rattle.node.specs.declared.branches.Branch as child
use Rattle.push.specs.Laws.LeafRoom.{listing-size}
use Rattle.slice.specs.Slicing.Slice.{rest_in, packed, after, right_of, edge_in}
use Rattle.slice.specs.Slicing.SliceFits.{pairs_size, fits, fits_in, fits-raise}
use Rattle.slice.specs.Slicing.ReadBack.{pairs-size}
use Rattle.slice.specs.Slicing.SliceStrip.{under_none, split-low, split-high, split-cut, right-strip, right-leaf-bare, right-node-bare}
use Rattle.slice.specs.Slicing.SliceWrite.{page_of}
use Rattle.slice.specs.Slicing.RightWrite.{packed_write, right_write, edge_write}
use Rattle.slice.specs.Slicing.WriteStrip.{right-write-strip}
use Rattle.node.specs.Search.Own.{branches_among}
use Rattle.lookup.specs.Look.{part-rest, listing, LeafAt, InteriorAt, leaf-at, interior-at, node-inside, inside-splits}
use Rattle.push.specs.Laws.Written.{small_numbers}
use Rattle.slice.specs.declared.Parts.{Parts}
use Rattle.slice.specs.Point.{Point, within, between, nowhere, fresh_in, point_of, Holds, Misses, side_line}
use Rattle.slice.specs.PointLaws.{side-line}
use Rattle.slice.specs.Left.{from}
use Rattle.slice.specs.Right.{rest_of, edge_at, right_at, edge_piece, rest_piece, pieces_in, no_parts, edge_part, PartsFit, raise_branches, all_line, over_body, wide_body, both_told, one_node, head_branch, RightAsks, RightAs, EdgeAs, WideAsks, NarrowAsks}
use Rattle.slice.specs.PieceSteps.{both-pieces}
use Rattle.slice.specs.RightLaws.{rest-is, edge-is, edge-write, branches-raise, branches-forest, among-short, rest-short, rest-small}
use Rattle.slice.specs.RightPieces.{packed-wide, packed-narrow, wide_fits, narrow-fits, write-wide-is, write-narrow-is, one_told, one-fit, PointIs, point-is}
use Rattle.slice.specs.LeftSteps.{small-branches, some_level, one-level}
use Rattle.octets.specs.Beginnings.{strip-shared}

pub after-wide : (w : Bool) (at : ℕ) → w ≡ true → after w at ≡ at + 2
unfolding after
after-wide w at e = ap (λ v. after v at) e ∙ omega arith

pub after-narrow : (w : Bool) (at : ℕ) → w ≡ false → after w at ≡ at + 1
unfolding after
after-narrow w at e = ap (λ v. after v at) e ∙ omega arith

-- ONE NODE
module _ (w : Bool) (s : List ℕ) (num level : ℕ) (lo hi k : List ℕ) (at : ℕ) (free : List ℕ) (pre : RightAsks w s num level lo hi k at free) where
  pub right-inside : num * 1024 + 1024 ≤ length s
  right-inside = (node-inside s num level pre.reads).0

  pub right-level : 1 ≤ level
  right-level = some_level (nodes_of (length s)) level s num pre.reads

  pub right_new : (new : ℕ) → new ≡ get_or free at 0 → new * 1024 + 1024 ≤ length s
  unfolding fresh_in
  right_new new e = let r = pre.room at (let a = right-level in omega arith) in omega arith

  module _ (bare : shared lo hi ≡ []) (es : List defined.Entry) (lists : es ≡ listing s num) where
    -- a leaf
    module _ (leafy : level ≤ 1) (d : ℕ) (ed : d ≡ length (shared k hi)) where
      leaf' : LeafAt s num level
      leaf' = leaf-at s num level leafy pre.reads

      abbrev kept : List Row
      kept = lower_rows (shared k hi) (keep (since k) leaf'.rs)

      part-is : right_of (fresh_in free) w (tree_at level s num) lo hi k at ≡ tree k (leaf (fresh_in free at) kept) end
      part-is = ap (λ t. right_of (fresh_in free) w t lo hi k at) leaf'.tree ∙ right-leaf-bare (fresh_in free) w num leaf'.rs lo hi k at bare

      line-is : bytes_of_all (pair_entries kept) ≡ side_line (since k) d es
      line-is =
          side-line (since k) (shared k hi) leaf'.es leaf'.rs leaf'.pairs ∙ ap₂ (λ n l. side_line (since k) n l) (sym ed) (sym (lists ∙ leaf'.node.lists))

      pub leaf-fits : length (side_line (since k) d es) ≤ 1016
      unfolding fits fits_in
      leaf-fits =
          let a : leb (pairs_size kept) 1016 && true ≡ true = ap fits_in (sym part-is) ∙ pre.small in
          let b = ap length line-is in
          omega (arith, leb-true (pairs_size kept) 1016 (and_left (leb (pairs_size kept) 1016) _ a), pairs-size kept)

      leaf-written : (new : ℕ) (s' : List ℕ) → new ≡ get_or free at 0 → s' ≡ write_node s new (page 1 1 (side_line (since k) d es))
          → s' ≡ right_write (fresh_in free) w (tree_at level s num) level lo hi k at s
      unfolding fresh_in
      leaf-written new s' e q =
          q
          ∙ ap₂ (λ n b. write_node s n (page 1 1 b)) e (sym line-is)
          ∙ ap (λ h. write_node s (get_or free at 0) (page 1 h (bytes_of_all (pair_entries kept)))) (sym (one-level (nodes_of (length s)) level s num leafy pre.reads))
          ∙ shown
          ∙ ap (λ t. right_write (fresh_in free) w t level lo hi k at s) (sym leaf'.tree)
        where
          shown : write_node s (get_or free at 0) (page 1 level (bytes_of_all (pair_entries kept))) ≡ right_write (fresh_in free) w (leaf num leaf'.rs) level lo hi k at s
          shown = unfold right_write page_of fresh_in in rw (bare, under_none leaf'.rs)

      pub leaf-done : (lift out : List ℕ) (new : ℕ) (s' : List ℕ) → new ≡ get_or free at 0 → s' ≡ write_node s new (page 1 1 (side_line (since k) d es))
          → RightAs w (tree_at level s num) level lo hi k at free lift s s' out edge_part
      leaf-done lift out new s' e q =
          record {
            written = leaf-written new s' e q;
            pieces = ap (λ f. raise_branches lift (branches_of f)) part-is ∙ shown;
            fit = tt;
          }
        where
          shown : raise_branches lift (branches_of (tree k (leaf (fresh_in free at) kept) end)) ≡ pieces_in (fresh_in free at) (fresh_in free (at + 1)) (lift ++ k) out edge_part
          shown = unfold raise_branches branches_of pieces_in edge_piece rest_piece number_of in refl

    -- an interior node
    module _ (inner : 2 ≤ level) (ks : List Branch) (among : ks ≡ branches_among es) (rks : List Branch) (at_rest : rks ≡ rest_of ks hi k) where
      inner' : InteriorAt s num level (level - 1)
      inner' = interior-at s num level inner pre.reads

      abbrev under : ℕ → Tree
      under = λ j. tree_at (level - 1) s j

      branches-are : inner'.x.branches ≡ ks
      branches-are = sym (among ∙ ap branches_among (lists ∙ inner'.node.lists) ∙ (inside-splits inner'.es inner'.x inner'.splits).branches)

      usables : usable_in (nodes_of (length s)) (forest_of under ks) ≡ true
      usables = ap (λ l. usable_in (nodes_of (length s)) (forest_of under l)) (sym branches-are) ∙ inner'.branches

      tree_is : tree_at level s num ≡ interior num (forest_of under ks) inner'.x.messages
      tree_is = inner'.tree ∙ ap (λ l. interior num (forest_of under l) inner'.x.messages) branches-are

      pub branches-small : small_numbers rks ≡ true
      branches-small =
          ap small_numbers at_rest ∙ rest-small hi k ks (small-branches (nodes_of (length s)) under ks pre.few (λ j. number_read (level - 1) s j) usables)

      pub branches-short : length (all_line 0 rks) ≤ 1016
      unfolding size_of
      branches-short =
          let a = ap (λ l. length (all_line 0 l)) at_rest in
          let b = rest-short hi k ks in
          let e = ap (λ l. length (all_line 0 l)) (among ∙ ap branches_among lists) in
          let f = among-short (listing s num) in
          let g : length (bytes_of_all (listing s num)) ≤ u16 s (num * 1024) = listing-size s num in
          let h = (node-inside s num level pre.reads).1 in
          omega arith

      abbrev edge : Forest
      edge = edge_at (fresh_in free) w under k (after w at) (point_of 0 ks hi k)

      abbrev rest : Forest
      rest = forest_of under rks

      edge_same : edge_in (fresh_in free) w (forest_of under ks) [] hi k (after w at) ≡ edge
      edge_same = edge-is hi k (fresh_in free) w under 0 (after w at) ks

      rest-same : rest_in (forest_of under ks) [] hi k ≡ rest
      rest-same = rest-is hi k under ks ∙ ap (forest_of under) (sym at_rest)

      branches-rest : branches_of rest ≡ rks
      branches-rest = branches-forest under rks (λ j. number_read (level - 1) s j)

      part-is' : right_of (fresh_in free) w (tree_at level s num) lo hi k at ≡ packed w (fresh_in free at) (fresh_in free (suc at)) k hi edge rest
      part-is' =
          ap (λ t. right_of (fresh_in free) w t lo hi k at) tree_is
          ∙ right-node-bare (fresh_in free) w num (forest_of under ks) inner'.x.messages lo hi k at bare
          ∙ ap₂ (λ e r. packed w (fresh_in free at) (fresh_in free (suc at)) k hi e r) edge_same rest-same

      packed-fits : fits_in (packed w (fresh_in free at) (fresh_in free (suc at)) k hi edge rest) ≡ true
      packed-fits = ap fits_in (sym part-is') ∙ pre.small

      write-is : right_write (fresh_in free) w (tree_at level s num) level lo hi k at s
          ≡ packed_write w level (fresh_in free at) (fresh_in free (suc at)) k hi edge rest (right_at (fresh_in free) w under (level - 1) k (after w at) s (point_of 0 ks hi k))
      write-is =
          let v : level ≡ suc (level - 1) = omega arith in
          ap₂ (λ h t. right_write (fresh_in free) w t h lo hi k at s) v tree_is ∙ shown
          ∙ ap₂ (λ e r. packed_write w (suc (level - 1)) (fresh_in free at) (fresh_in free (suc at)) k hi e r (edge_write (fresh_in free) w (forest_of under ks) (level - 1) [] hi k (after w at) s)) edge_same rest-same
          ∙ ap₂ (λ h x. packed_write w h (fresh_in free at) (fresh_in free (suc at)) k hi edge rest x) (sym v) (edge-write hi k (fresh_in free) w under 0 (level - 1) (after w at) s ks)
        where
          shown : right_write (fresh_in free) w (interior num (forest_of under ks) inner'.x.messages) (suc (level - 1)) lo hi k at s
              ≡ packed_write w (suc (level - 1)) (fresh_in free at) (fresh_in free (suc at)) k hi (edge_in (fresh_in free) w (forest_of under ks) [] hi k (after w at))
              (rest_in (forest_of under ks) [] hi k) (edge_write (fresh_in free) w (forest_of under ks) (level - 1) [] hi k (after w at) s)
          shown = unfold right_write in rw bare

      -- what the child that holds the cut is asked
      inside-asks : (i : ℕ) (low high : List ℕ) (a : ℕ) → a ≤ at + 2 → fits_in (right_of (fresh_in free) w (tree_at (level - 1) s i) low high k a) ≡ true
          → (usable (nodes_of (length s)) (tree_at (level - 1) s i) ≡ true) × (before low k ≡ true) × (before k high ≡ true) → RightAsks w s i (level - 1) low high k a free
      inside-asks i low high a g f h =
          record {
            reads = h.0;
            small = f;
            above = h.1;
            below = h.2;
            few = pre.few;
            levels = let b = pre.levels in omega arith;
            enough = let b = pre.enough in omega arith;
            room = λ j b. pre.room j (omega arith);
          }

      child-asks : (a : ℕ) → after w at ≡ a → a ≤ at + 2 → fits_in edge ≡ true → (b : child.Branch) → Holds (point_of 0 ks hi k) b
          → RightAsks w s b.number (level - 1) b.low.now b.high.now k a free
      unfolding PointIs edge_at
      child-asks a e g f b h =
          inside-asks b.number b.low.now b.high.now a g
          (ap (λ x. fits_in (edge_at (fresh_in free) w under k a x)) (sym h.is) ∙ ap (λ i. fits_in (edge_at (fresh_in free) w under k i (point_of 0 ks hi k))) (sym e) ∙ f)
          (subst (PointIs under (nodes_of (length s)) k) h.is (point-is under hi k (nodes_of (length s)) ks 0 usables))

      -- the child's answer
      module _ (a : ℕ) (ea : after w at ≡ a) (s₁ out : List ℕ) (below : Parts) (ans : EdgeAs w (level - 1) k a free s s₁ out (point_of 0 ks hi k) below) where
        edge-branches : branches_of edge ≡ pieces_in (fresh_in free a) (fresh_in free (a + 1)) k out below
        edge-branches =
            ap (λ i. branches_of (edge_at (fresh_in free) w under k i (point_of 0 ks hi k))) ea
            ∙ ans.pieces

        first-is : s₁ ≡ right_at (fresh_in free) w under (level - 1) k (after w at) s (point_of 0 ks hi k)
        first-is =
            ans.written ∙ ap (λ i. right_at (fresh_in free) w under (level - 1) k i s (point_of 0 ks hi k)) (sym ea)

        -- wide: two nodes
        module _ (ew : w ≡ true) (e2 : a ≡ at + 2) where
          next : a + 1 ≡ at + 3
          next = omega arith

          branches-wide : branches_of edge ≡ pieces_in (fresh_in free (at + 2)) (fresh_in free (at + 3)) k out below
          branches-wide = edge-branches ∙ ap₂ (λ i j. pieces_in (fresh_in free i) (fresh_in free j) k out below) e2 next

          high_is : high_of [] hi rest ≡ branch_high hi rks
          high_is = high-at under hi rks

          m-is : fresh_in free (suc at) ≡ fresh_in free (at + 1)
          m-is = let z : suc at ≡ at + 1 = omega arith in ap (fresh_in free) z

          wide-parts : (length (all_line (length (shared k (high_of [] hi rest))) (branches_of edge)) ≤ 1016) × (length (all_line (length (shared (high_of [] hi rest) hi)) (branches_of rest)) ≤ 1016) × (fits_in edge ≡ true)
          wide-parts =
              wide_fits (fresh_in free at) (fresh_in free (suc at)) k hi edge rest
              (ap (λ v. fits_in (packed v (fresh_in free at) (fresh_in free (suc at)) k hi edge rest)) (sym ew) ∙ packed-fits)

          pub wide-ready : (size : ℕ) → length s ≤ size → WideAsks size level rks hi k below out at free
          wide-ready size big =
              let p = wide-parts in
              let x : all_line (length (shared k (high_of [] hi rest))) (branches_of edge) ≡ all_line (length (shared k (branch_high hi rks))) (pieces_in (fresh_in free (at + 2)) (fresh_in free (at + 3)) k out below) =
              ap₂ (λ h q. all_line (length (shared k h)) q) high_is branches-wide in
              let y : all_line (length (shared (high_of [] hi rest) hi)) (branches_of rest) ≡ all_line (length (shared (branch_high hi rks) hi)) rks = ap₂ (λ h q. all_line (length (shared h hi)) q) high_is branches-rest in
              let lx = ap length x in
              let ly = ap length y in
              record {
                levels = pre.levels;
                enough = let b = pre.enough in omega arith;
                room = λ i b. let q = pre.room i (omega arith) in omega arith;
                fit = ans.fit;
                numbers = branches-small;
                edge_fits = omega arith;
                rest_fits = omega arith;
              }

          pub wide-done : (lift s₂ out' : List ℕ) (r : Parts)
              → s₂ ≡ wide_body (fresh_in free at) (fresh_in free (at + 1)) level k hi (branch_high hi rks) (pieces_in (fresh_in free (at + 2)) (fresh_in free (at + 3)) k out below) rks s₁
              → both_told rks below lift out' r → RightAs w (tree_at level s num) level lo hi k at free lift s s₂ out' r
          wide-done lift s₂ out' r q told =
              let p = both-pieces hi k below out at free lift rks out' r told in
              record {
                written =
                    q
                    ∙ sym (λ i. wide_body (fresh_in free at) (m-is i) level k hi (high_is i) (branches-wide i) (branches-rest i) s₁)
                    ∙ sym (write-wide-is level (fresh_in free at) (fresh_in free (suc at)) k hi edge rest s₁)
                    ∙ (λ i. packed_write (sym ew i) level (fresh_in free at) (fresh_in free (suc at)) k hi edge rest (first-is i))
                    ∙ sym write-is;
                pieces =
                    ap (λ f. raise_branches lift (branches_of f)) (part-is' ∙ ap (λ v. packed v (fresh_in free at) (fresh_in free (suc at)) k hi edge rest) ew)
                    ∙ ap (raise_branches lift) (packed-wide (fresh_in free at) (fresh_in free (suc at)) k hi edge rest)
                    ∙ (λ i. raise_branches lift (head_branch (fresh_in free at) k (branches-wide i) ++ head_branch (m-is i) (high_is i) (branches-rest i)))
                    ∙ p.0;
                fit = p.1;
              }

        -- narrow: one node
        module _ (ew : w ≡ false) (e1 : a ≡ at + 1) where
          next' : a + 1 ≡ at + 2
          next' = omega arith

          branches-narrow : branches_of edge ≡ pieces_in (fresh_in free (at + 1)) (fresh_in free (at + 2)) k out below
          branches-narrow = edge-branches ∙ ap₂ (λ i j. pieces_in (fresh_in free i) (fresh_in free j) k out below) e1 next'

          all-branches : branches_of edge ++ branches_of rest ≡ pieces_in (fresh_in free (at + 1)) (fresh_in free (at + 2)) k out below ++ rks
          all-branches = ap₂ (λ x y. x ++ y) branches-narrow branches-rest

          pub narrow-ready : (size : ℕ) → length s ≤ size → NarrowAsks size level rks hi k below out at free
          narrow-ready size big =
              let p = narrow-fits (fresh_in free at) (fresh_in free (suc at)) k hi edge rest
              (ap (λ v. fits_in (packed v (fresh_in free at) (fresh_in free (suc at)) k hi edge rest)) (sym ew) ∙ packed-fits) in
              let x = ap (λ q. length (all_line (length (shared k hi)) q)) all-branches in
              record {
                levels = pre.levels;
                enough = let b = pre.enough in omega arith;
                room = λ i b. let q = pre.room i (omega arith) in omega arith;
                fit = ans.fit;
                numbers = branches-small;
                all_fit = omega arith;
              }

          pub narrow-done : (lift s₂ : List ℕ) (r : Parts)
              → s₂ ≡ over_body (fresh_in free at) level (all_line (length (shared k hi)) (pieces_in (fresh_in free (at + 1)) (fresh_in free (at + 2)) k out below ++ rks)) s₁
              → r ≡ one_node (pieces_in (fresh_in free (at + 1)) (fresh_in free (at + 2)) k out below ++ rks)
              → RightAs w (tree_at level s num) level lo hi k at free lift s s₂ out r
          narrow-done lift s₂ r q er =
              record {
                written =
                    q ∙ ap (λ l. over_body (fresh_in free at) level (all_line (length (shared k hi)) l) s₁) (sym all-branches)
                    ∙ sym (write-narrow-is level (fresh_in free at) (fresh_in free (suc at)) k hi edge rest s₁)
                    ∙ (λ i. packed_write (sym ew i) level (fresh_in free at) (fresh_in free (suc at)) k hi edge rest (first-is i))
                    ∙ sym write-is;
                pieces =
                    ap (λ f. raise_branches lift (branches_of f)) (part-is' ∙ ap (λ v. packed v (fresh_in free at) (fresh_in free (suc at)) k hi edge rest) ew)
                    ∙ ap (raise_branches lift) (packed-narrow (fresh_in free at) (fresh_in free (suc at)) k hi edge rest ∙ ap (head_branch (fresh_in free at) k) all-branches)
                    ∙ one_told (fresh_in free at) (fresh_in free (at + 1)) lift k out (pieces_in (fresh_in free (at + 1)) (fresh_in free (at + 2)) k out below ++ rks)
                    ∙ ap (pieces_in (fresh_in free at) (fresh_in free (at + 1)) (lift ++ k) out) (sym er);
                fit = subst (PartsFit (length out)) (sym er) (one-fit (length out) (pieces_in (fresh_in free (at + 1)) (fresh_in free (at + 2)) k out below ++ rks));
              }

      -- what each way asks of the child
      asks-wide : w ≡ true → (b : child.Branch) → Holds (point_of 0 ks hi k) b → RightAsks w s b.number (level - 1) b.low.now b.high.now k (at + 2) free
      asks-wide ew =
          child-asks (at + 2) (after-wide w at ew) (omega arith)
          (wide_fits (fresh_in free at) (fresh_in free (suc at)) k hi edge rest
          (ap (λ v. fits_in (packed v (fresh_in free at) (fresh_in free (suc at)) k hi edge rest)) (sym ew) ∙ packed-fits)).2

      asks-narrow : w ≡ false → (b : child.Branch) → Holds (point_of 0 ks hi k) b → RightAsks w s b.number (level - 1) b.low.now b.high.now k (at + 1) free
      asks-narrow ew =
          child-asks (at + 1) (after-narrow w at ew) (omega arith)
          (narrow-fits (fresh_in free at) (fresh_in free (suc at)) k hi edge rest
          (ap (λ v. fits_in (packed v (fresh_in free at) (fresh_in free (suc at)) k hi edge rest)) (sym ew) ∙ packed-fits)).1

      pub asks : (a : ℕ) → a ≡ after w at → (b : child.Branch) → Holds (point_of 0 ks hi k) b → RightAsks w s b.number (level - 1) b.low.now b.high.now k a free
      asks a e b h =
          cases w
          (λ t. subst (λ n. RightAsks w s b.number (level - 1) b.low.now b.high.now k n free) (sym (e ∙ after-wide w at t)) (asks-wide t b h))
          (λ f. subst (λ n. RightAsks w s b.number (level - 1) b.low.now b.high.now k n free) (sym (e ∙ after-narrow w at f)) (asks-narrow f b h))

-- THE LOW PIVOT OF A TREE THAT LIFTS NOTHING DOES NOT MATTER
right-low-bare : (fresh : ℕ → ℕ) (w : Bool) (t : Tree) (lo hi k : List ℕ) (at : ℕ) → shared lo hi ≡ [] → right_of fresh w t lo hi k at ≡ right_of fresh w t [] hi k at
unfolding right_of shared
right-low-bare fresh w (unread i) lo hi k at e = refl
right-low-bare fresh w (leaf i rs) lo hi k at e =
    ap (λ p. tree k (leaf (fresh at) (lower_rows (shared k hi) (keep (since k) (under_prefix p rs)))) end) e
right-low-bare fresh w (interior i f ms) lo hi k at e =
    ap (λ p. packed w (fresh at) (fresh (suc at)) k hi (edge_in fresh w f p hi k (after w at)) (rest_in f p hi k)) e

right-write-bare : (fresh : ℕ → ℕ) (w : Bool) (t : Tree) (h : ℕ) (lo hi k : List ℕ) (at : ℕ) (s : List ℕ) → shared lo hi ≡ []
    → right_write fresh w t h lo hi k at s ≡ right_write fresh w t h [] hi k at s
unfolding right_write shared
right-write-bare fresh w (unread i) h lo hi k at s e = refl
right-write-bare fresh w (leaf i rs) h lo hi k at s e =
    ap (λ p. write_node s (fresh at) (page_of h (leaf (fresh at) (lower_rows (shared k hi) (keep (since k) (under_prefix p rs)))))) e
right-write-bare fresh w (interior i f ms) zero lo hi k at s e = refl
right-write-bare fresh w (interior i f ms) (suc h) lo hi k at s e =
    ap (λ p. packed_write w (suc h) (fresh at) (fresh (suc at)) k hi (edge_in fresh w f p hi k (after w at)) (rest_in f p hi k) (edge_write fresh w f h p hi k (after w at) s)) e

raise-bare : (ks : List Branch) → raise_branches [] ks ≡ ks
unfolding raise_branches
raise-bare [] = refl
raise-bare (c ∷ cs) = ap (λ l. c ∷ l) (raise-bare cs)

some_after : (lo k : List ℕ) → before lo k ≡ true → before [] k ≡ true
unfolding before
some_after [] k e = e
some_after (a ∷ lo) [] e = absurd (false≢true e)
some_after (a ∷ lo) (b ∷ k) e = refl

-- THE CHILD WITHOUT WHAT IT LIFTS
module _ (w : Bool) (s : List ℕ) (i level : ℕ) (low high k : List ℕ) (at : ℕ) (free : List ℕ) (pre : RightAsks w s i level low high k at free) (j : ℕ) (ej : j ≡ length (shared low high)) where
  within-k : shared low high ++ drop (length (shared low high)) k ≡ k
  within-k = split-cut low high k pre.above pre.below

  pub strip-short : j ≤ length k
  strip-short = let a = ap length within-k in let b = length-append (shared low high) (drop (length (shared low high)) k) in omega arith

  lift-is : take j k ≡ shared low high
  lift-is = ap (λ n. take n k) ej ∙ ap (take (length (shared low high))) (sym within-k) ∙ take-append_seam (shared low high) (drop (length (shared low high)) k)

  abbrev low' : List ℕ
  low' = drop (length (shared low high)) low

  eh : from j high ≡ drop (length (shared low high)) high
  eh = part-rest j high ∙ ap (λ n. drop n high) ej

  ek : from j k ≡ drop (length (shared low high)) k
  ek = part-rest j k ∙ ap (λ n. drop n k) ej

  bare : shared (drop (length (shared low high)) low) (from j high) ≡ []
  bare = ap (shared low') eh ∙ strip-shared low high

  stripped : right_of (fresh_in free) w (tree_at level s i) low high k at ≡ raise (shared low high) (right_of (fresh_in free) w (tree_at level s i) [] (from j high) (from j k) at)
  stripped =
      right-strip low high (fresh_in free) k pre.above pre.below w (tree_at level s i) at
      ∙ sym (λ z. raise (shared low high) (right_of (fresh_in free) w (tree_at level s i) low' (eh z) (ek z) at))
      ∙ ap (raise (shared low high)) (right-low-bare (fresh_in free) w (tree_at level s i) low' (from j high) (from j k) at bare)

  pub strip-asks : RightAsks w s i level [] (from j high) (from j k) at free
  strip-asks =
      record {
        reads = pre.reads;
        small = sym (fits-raise (shared low high) (right_of (fresh_in free) w (tree_at level s i) [] (from j high) (from j k) at)) ∙ ap fits_in (sym stripped) ∙ pre.small;
        above =
            some_after low' (from j k)
            (ap (before low') ek ∙ sym (before-append (shared low high) (drop (length (shared low high)) low) (drop (length (shared low high)) k))
            ∙ ap₂ before (split-low low high) within-k ∙ pre.above);
        below =
            ap₂ before ek eh ∙ sym (before-append (shared low high) (drop (length (shared low high)) k) (drop (length (shared low high)) high))
            ∙ ap₂ before within-k (split-high low high) ∙ pre.below;
        few = pre.few;
        levels = pre.levels;
        enough = pre.enough;
        room = pre.room;
      }

  pub strip-done : (s' out : List ℕ) (r : Parts) → RightAs w (tree_at level s i) level [] (from j high) (from j k) at free (take j k) s s' out r
      → RightAs w (tree_at level s i) level low high k at free [] s s' out r
  strip-done s' out r ans =
      record {
        written =
            ans.written ∙ sym (right-write-bare (fresh_in free) w (tree_at level s i) level low' (from j high) (from j k) at s bare)
            ∙ (λ z. right_write (fresh_in free) w (tree_at level s i) level low' (eh z) (ek z) at s)
            ∙ sym (right-write-strip (fresh_in free) low high k pre.above pre.below w (tree_at level s i) level at s);
        pieces =
            raise-bare (branches_of (right_of (fresh_in free) w (tree_at level s i) low high k at))
            ∙ ap branches_of stripped ∙ branches-raise (shared low high) (right_of (fresh_in free) w (tree_at level s i) [] (from j high) (from j k) at)
            ∙ ap (λ l. raise_branches l (branches_of (right_of (fresh_in free) w (tree_at level s i) [] (from j high) (from j k) at))) (sym lift-is) ∙ ans.pieces
            ∙ ap (λ l. pieces_in (fresh_in free at) (fresh_in free (at + 1)) l out r) (ap₂ (λ x y. x ++ y) lift-is ek ∙ within-k);
        fit = ans.fit;
      }

-- BY THE ANSWER
module _ (w : Bool) (s k : List ℕ) (level at : ℕ) (free : List ℕ) (x : Point) where
  pub held-answer : (b : child.Branch) → Holds x b → (s' out : List ℕ) (r : Parts)
      → RightAs w (tree_at level s b.number) level b.low.now b.high.now k at free [] s s' out r → EdgeAs w level k at free s s' out x r
  held-answer b h s' out r ans =
      subst (λ z. EdgeAs w level k at free s s' out z r) (sym h.is)
      (record {
        written = unfold right_at in ans.written;
        pieces = unfold edge_at in (sym (raise-bare (branches_of (right_of (fresh_in free) w (tree_at level s b.number) b.low.now b.high.now k at))) ∙ ans.pieces);
        fit = ans.fit;
      })

pub missed-answer : (w : Bool) (s k : List ℕ) (level at : ℕ) (free : List ℕ) (x : Point) → Misses x → (out : List ℕ) → EdgeAs w level k at free s s out x no_parts
unfolding Misses right_at edge_at branches_of pieces_in edge_piece rest_piece
missed-answer w s k level at free (within n i low high) h out = absurd h
missed-answer w s k level at free (between n low) h out = record { written = refl; pieces = refl; fit = tt }
missed-answer w s k level at free (nowhere n) h out = record { written = refl; pieces = refl; fit = tt }
