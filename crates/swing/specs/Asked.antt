-- The plan of a swing from what it asks: the laws of slice/Moving, with the list of free nodes as the code reads it; and its image as `swung_with`.
-- Relies on slice/Moving's laws of the supply of free nodes.
use Rattle.std.specs.Prelude.{ℕ, zero, suc, ◌+◌, ◌*◌, ◌-◌, ◌≤◌, ◌<◌, ◌≡◌, refl, List, [], Bool, true, false, length, get_or, take, drop, leb}
use Rattle.image.specs.Prelude.{sym, ap, ap₂, subst, ◌∙◌, arith, take_at, leb-true, leb-false}
use Rattle.image.specs.Bytes.{before}
use Rattle.image.specs.Path.{well_formed}
use Rattle.image.specs.Image.{node_bytes, nodes_of, header_of, tree_of}
use Rattle.image.specs.Sound.{table_of, highest, numbers, is_in}
use Rattle.octets.specs.Beginnings.{begins-refl}
use Rattle.octets.specs.Order.{not_so, same_false, before-total}
use Rattle.octets.specs.Put.{put}
use Rattle.node.specs.Whole.{whole_parts}
use Rattle.packed.specs.Build.Handed.{listed, handed_from, handed}
use Rattle.packed.specs.Build.HandedLaws.{listed-length}
use Rattle.slice.specs.Slicing.FromImage.{image-good, image-fits}
use Rattle.slice.specs.Slicing.SliceNumbers.{met, spent}
use Rattle.slice.specs.Slicing.SliceFits.{fits}
use Rattle.slice.specs.Slicing.Range.{past, before-aside, formed-inside}
use Rattle.laws.specs.WriteNode.{write_node}
use Rattle.slice.specs.Moving.Move.{root_over, moved_tree}
use Rattle.slice.specs.Moving.MoveDone.{moved_store, get-past, get-range}
use Rattle.slice.specs.Moving.MoveLaws.{Well, some_level, move-well, short-past}
use Rattle.slice.specs.Moving.MoveImage.{from_list, roots, range-hit, supply, supply-range, supply-spent}
use Rattle.slice.specs.Moving.MoveWrite.{moved_image}
use Rattle.slice.specs.Point.{fresh_in}
use Rattle.swing.specs.Cuts.{front}
use Rattle.append.specs.Laws.SetLive.{other-stays}
use Rattle.laws.specs.ButLive.{sound-but-live}
use Rattle.slice.specs.Moving.MoveBound.{Swung, swung-by as moved-swung}
use Rattle.slice.specs.Slicing.SliceWrite.{in-hits}
use Rattle.swing.specs.Head.{swung_with, swung-back}
use Rattle.swing.specs.Steps.{past-length, front-past}
use Rattle.swing.specs.Plan.{SwingAsks, Swings, under_low, under_high, taken, taken_path, image_over, swung_over, Plan, PastPlan}
use Rattle.laws.specs.Page.{head_page}

-- THE LIST OF FREE NODES, as the laws and as the code read it
listed-get : (k : ℕ) (given : List ℕ) (i j : ℕ) → j < k → get_or (listed k given i) j 0 ≡ get_or given (i + j) 0
unfolding listed
listed-get zero given i j h = absurd (omega arith)
listed-get (suc k) given i zero h = let e : i + zero ≡ i = omega arith in ap (λ n. get_or given n 0) (sym e)
listed-get (suc k) given i (suc j) h = let e : suc i + j ≡ i + suc j = omega arith in listed-get k given (suc i) j (omega arith) ∙ ap (λ n. get_or given n 0) e

listed-past : (k : ℕ) (given : List ℕ) (i j : ℕ) → k ≤ j → get_or (listed k given i) j 0 ≡ 0
unfolding listed
listed-past zero given i j h = refl
listed-past (suc k) given i zero h = absurd (omega arith)
listed-past (suc k) given i (suc j) h = listed-past k given (suc i) j (omega arith)

pub fresh_at : (free : List ℕ) (i : ℕ) → from_list (handed free) i ≡ fresh_in free i
unfolding handed handed_from fresh_in
fresh_at free i = go (leb (length free - 0) i) refl
  where
    go : (b : Bool) → leb (length free - 0) i ≡ b → get_or (listed (length free - 0) free 0) i 0 ≡ get_or free i 0
    go true e =
        let far : length free - 0 ≤ i = leb-true (length free - 0) i e in
        listed-past (length free - 0) free 0 i far ∙ sym (get-past free i (omega arith))
    go false e =
        let near : i < length free - 0 = leb-false (length free - 0) i e in
        let z : 0 + i ≡ i = omega arith in
        listed-get (length free - 0) free 0 i near ∙ ap (λ n. get_or free n 0) z

pub fresh-is : (free : List ℕ) → ◌≡◌ {A = ℕ → ℕ} (from_list (handed free)) (fresh_in free)
fresh-is free = λ d i. fresh_at free i d

pub handed-many : (free : List ℕ) → length (handed free) ≡ length free
unfolding handed handed_from
handed-many free = let e : length free - 0 ≡ length free = omega arith in listed-length (length free - 0) free 0 ∙ e

module _ (s free from to : List ℕ) (k : SwingAsks s free from to) where
  fresh-eq : ◌≡◌ {A = ℕ → ℕ} (from_list (handed free)) (fresh_in free)
  fresh-eq = fresh-is free

  once-x : (j : ℕ) → met j (tree_of s) + spent (from_list (handed free)) j (suc (10 * (header_of s).levels)) 0 ≤ 1
  once-x j = omega (arith, supply s (handed free) k.is_sound k.supply j, supply-spent s (handed free) k.is_sound k.supply j (suc (10 * (header_of s).levels)) (omega arith))

  range-x : (j c : ℕ) → c ≤ suc (10 * (header_of s).levels) → 1 ≤ met j (tree_of s) + spent (from_list (handed free)) j c 0 → (1 ≤ j) × (j < nodes_of (length s))
  range-x j c l q = supply-range s (handed free) k.is_sound k.supply j (omega (arith, supply-spent s (handed free) k.is_sound k.supply j c l))

  small-x : (x : ℕ) → from_list (handed free) x < nodes_of (length s)
  small-x x = get-range (nodes_of (length s)) (handed free) x (omega (arith, (whole_parts (length s) k.whole).enough)) k.supply.within

  -- the plan of a direction
  module _ (p r : List ℕ) (up : Bool) (above : before [] p ≡ true) (between : before (past p) r ≡ true) (below : before (past r) highest ≡ true)
      (formed-p : well_formed p ≡ true) (formed-r : well_formed r ≡ true)
      (fit : fits (root_over (fresh_in free) (header_of s).levels (tree_of s) p r (under_low (fresh_in free) (header_of s).levels (tree_of s) p r up)
      (under_high (fresh_in free) (header_of s).levels (tree_of s) p r up)) ≡ true) where
    plan : Plan s free p r up
    plan =
        record {
          good = image-good s k.is_sound k.is_settled;
          fit = image-fits s;
          above = above;
          between = between;
          below = below;
          short_p = short-past p formed-p;
          short_r = short-past r formed-r;
          room = λ x. omega (arith, small-f x, (whole_parts (length s) k.whole).filled);
          once = subst (λ f. (j : ℕ) → met j (tree_of s) + spent f j (suc (10 * (header_of s).levels)) 0 ≤ 1) fresh-eq once-x;
          range =
              subst (λ f. (j c : ℕ) → c ≤ suc (10 * (header_of s).levels) → 1 ≤ met j (tree_of s) + spent f j c 0 → (1 ≤ j) × (j < nodes_of (length s))) fresh-eq range-x;
          small = small-f;
          low = k.low;
          some = omega (arith, (some_level (tree_of s) (header_of s).levels (image-good s k.is_sound k.is_settled).level).1);
          whole = k.whole;
          enough = omega (arith, k.supply.enough, handed-many free);
          root_fits = fit;
        }
      where
        small-f : (x : ℕ) → fresh_in free x < nodes_of (length s)
        small-f = subst (λ f. (x : ℕ) → f x < nodes_of (length s)) fresh-eq small-x

  well : Well (from_list (handed free)) (header_of s).levels from to (tree_of s) (moved_tree (from_list (handed free)) (header_of s).levels (tree_of s) from to)
  unfolding table_of
  well =
      move-well (from_list (handed free)) (header_of s).levels (tree_of s) from to (image-good s k.is_sound k.is_settled) (image-fits s) k.formed_from k.formed_to
      k.apart_from k.apart_to k.nine

  new-fits : fits (moved_tree (fresh_in free) (header_of s).levels (tree_of s) from to) ≡ true
  new-fits = subst (λ f. fits (moved_tree f (header_of s).levels (tree_of s) from to) ≡ true) fresh-eq well.new_fits

  swung-by : (up : Bool) (p r : List ℕ)
      → image_over (fresh_in free) (header_of s).levels (tree_of s) p r up s ≡ moved_image (fresh_in free) (header_of s).levels (tree_of s) from to s
      → swung_over s free (past p) (past r) up ≡ swung_with (header_of s).live s (handed free) from to
  unfolding swung_over swung_with
  swung-by up p r e =
      ap₂ (λ x y. write_node (image_over (fresh_in free) (header_of s).levels (tree_of s) x y up s) 0 (head_page (nodes_of (length s)) (fresh_in free (10 * (header_of s).levels)) (suc (header_of s).levels) (header_of s).live))
      (front-past p) (front-past r)
      ∙ ap (λ x. write_node x 0 (head_page (nodes_of (length s)) (fresh_in free (10 * (header_of s).levels)) (suc (header_of s).levels) (header_of s).live)) e
      ∙ ap (λ (f : ℕ → ℕ). write_node (moved_image f (header_of s).levels (tree_of s) from to s) 0 (head_page (nodes_of (length s)) (f (10 * (header_of s).levels)) (suc (header_of s).levels) (header_of s).live)) (sym fresh-eq)

  -- the nodes that were reachable
  pub whole-swing : Swung s (moved_store s (handed free) from to) from to
  whole-swing =
      moved-swung s from to k.whole k.is_sound k.is_settled k.low k.formed_from k.formed_to k.apart_from k.apart_to k.nine (handed free) k.supply

  swings : (s' : List ℕ) → s' ≡ swung_with (header_of s).live s (handed free) from to → Swings s s' free from to
  swings s' e = record { exact = e; spares = λ j q. ap (λ x. node_bytes x j) e ∙ beside j (from_one j q) ∙ whole-swing.spares j q }
    where
      from_one : (j : ℕ) → is_in j (numbers (tree_of s)) ≡ true → j ≡ 0 → ⊥
      from_one j q z = let r = range-hit (nodes_of (length s)) j (numbers (tree_of s)) (roots s k.is_sound).within (in-hits j (numbers (tree_of s)) q) in omega (arith, r.0)

      beside : (j : ℕ) → (j ≡ 0 → ⊥) → node_bytes (swung_with (header_of s).live s (handed free) from to) j ≡ node_bytes (moved_store s (handed free) from to) j
      beside j n =
          ap (λ x. node_bytes x j) (swung-back s (handed free) from to (header_of s).live)
          ∙ other-stays (moved_store s (handed free) from to) (header_of s).live (sound-but-live (moved_store s (handed free) from to) whole-swing.is_sound) j n

  -- up
  module _ (e : before from to ≡ true) where
    tree-up : moved_tree (fresh_in free) (header_of s).levels (tree_of s) from to
        ≡ root_over (fresh_in free) (header_of s).levels (tree_of s) from to (under_low (fresh_in free) (header_of s).levels (tree_of s) from to true)
        (under_high (fresh_in free) (header_of s).levels (tree_of s) from to true)
    unfolding moved_tree under_low under_high
    tree-up = rw e

    pub plan-up : Plan s free from to true
    plan-up =
        plan from to true (formed-inside from k.formed_from).0 (before-aside from to highest e k.apart_from) (formed-inside to k.formed_to).1 k.formed_from k.formed_to
        (sym (ap fits tree-up) ∙ new-fits)

    pub done-up : (s' : List ℕ) → s' ≡ swung_over s free (past from) (past to) true → Swings s s' free from to
    done-up s' q = swings s' (q ∙ swung-by true from to (unfold image_over taken taken_path under_low under_high moved_image in rw e))

  -- down
  module _ (e : before from to ≡ false) where
    tree-down : moved_tree (fresh_in free) (header_of s).levels (tree_of s) from to
        ≡ root_over (fresh_in free) (header_of s).levels (tree_of s) to from (under_low (fresh_in free) (header_of s).levels (tree_of s) to from false)
        (under_high (fresh_in free) (header_of s).levels (tree_of s) to from false)
    unfolding moved_tree under_low under_high
    tree-down = rw e

    before-down : before to from ≡ true
    before-down = before-total to from (same_false to from (λ q. not_so (rw q (begins-refl from)) k.apart_to)) e

    pub plan-down : Plan s free to from false
    plan-down =
        plan to from false (formed-inside to k.formed_to).0 (before-aside to from highest before-down k.apart_to) (formed-inside from k.formed_from).1 k.formed_to k.formed_from
        (sym (ap fits tree-down) ∙ new-fits)

    pub done-down : (s' : List ℕ) → s' ≡ swung_over s free (past to) (past from) false → Swings s s' free from to
    done-down s' q = swings s' (q ∙ swung-by false to from (unfold image_over taken taken_path under_low under_high moved_image in rw e))

-- THE ENDS OF THE RANGES, as the code lays them down
pub end-laid : (path zeros bound : List ℕ) (n : ℕ) → n ≡ length path + 1 → bound ≡ put zeros 0 (past path) → take (n - 0) (drop 0 bound) ≡ past path
unfolding put
end-laid path zeros bound n e q =
    let a : n - 0 ≡ length (past path) = omega (arith, past-length path) in
    ap₂ (λ m l. take m l) a q ∙ take_at (past path) (drop (0 + length (past path)) zeros) (length (past path)) refl

pub past-plan : (s free p r bound limit : List ℕ) (up : Bool) → Plan s free p r up → bound ≡ past p → limit ≡ past r → PastPlan s free bound limit up
past-plan s free p r bound limit up planned eb el =
    record {
      plan = subst (λ x. Plan s free x (front limit) up) (sym p-is) (subst (λ y. Plan s free p y up) (sym r-is) planned);
      bound_is = eb ∙ ap past (sym p-is);
      limit_is = el ∙ ap past (sym r-is);
    }
  where
    p-is : front bound ≡ p
    p-is = ap front eb ∙ front-past p

    r-is : front limit ≡ r
    r-is = ap front el ∙ front-past r

pub over_done : (s free p r bound limit s' : List ℕ) (up : Bool) → bound ≡ past p → limit ≡ past r → s' ≡ swung_over s free bound limit up
    → s' ≡ swung_over s free (past p) (past r) up
over_done s free p r bound limit s' up eb el q = q ∙ ap₂ (λ b l. swung_over s free b l up) eb el
