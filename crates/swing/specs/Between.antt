-- The swing from its steps: what each call in it asks, and that the image at its end is slice/Moving's.
-- Relies on Steps (what the plan gives), RootLaws (the new root's page) and laws' Page (node 0).
use Rattle.std.specs.Prelude.{ℕ, suc, ◌+◌, ◌*◌, ◌-◌, ◌/◌, ◌≤◌, ◌<◌, ◌≡◌, refl, List, [], Bool, length, get_or}
use Rattle.image.specs.Prelude.{sym, ap, ap₂, subst, ◌∙◌, arith}
use Rattle.image.specs.Bytes.{u16}
use Rattle.image.specs.Image.{nodes_of, header_of, tree_of}
use Rattle.laws.specs.Page.{page, page-length, number_of, branches_of, head_page}
use Rattle.laws.specs.WriteNode.{write_node, write-length}
use Rattle.node.specs.Whole.{whole_parts}
use Rattle.append.specs.Laws.Append.{header-levels, header-live}
use Rattle.slice.specs.Slicing.Range.{past}
use Rattle.slice.specs.Slicing.SliceWrite.{page_of}
use Rattle.slice.specs.Moving.Move.{right_past_r, right_past_p, root_over}
use Rattle.slice.specs.Moving.MoveWrite.{im8, im9}
use Rattle.slice.specs.Point.{fresh_in}
use Rattle.slice.specs.Right.{pieces_in, raise_branches}
use Rattle.swing.specs.declared.Cuts.{Cuts}
use Rattle.swing.specs.declared.root.Half.{Half}
use Rattle.swing.specs.Cuts.{front, BothAsks, BothAs, taken_out, TakeAsks, low_place}
use Rattle.swing.specs.Root.{half_in, root_line, RootAsks}
use Rattle.swing.specs.RootLaws.{root-page, root-size}
use Rattle.swing.specs.Plan.{under_low, under_high, taken, taken_path, image_over, swung_over, Plan, PastPlan}
use Rattle.swing.specs.Steps.{past-length, front-past, both-asks, both-written, low-pieces, high-pieces, take-asks, taken_is, size-8, number-first, number-under-low, number-under-high}

module _ (s free p r : List ℕ) (up : Bool) (planned : Plan s free p r up) where
  abbrev F : ℕ → ℕ
  F = fresh_in free

  abbrev H : ℕ
  H = (header_of s).levels

  big : 12 ≤ length s
  big = let w = whole_parts (length s) planned.whole in omega (arith, w.filled, w.enough)

  small : (x : ℕ) → F x < 65536
  small x = omega (arith, planned.small x, (whole_parts (length s) planned.whole).few)

  module _ (s₆ low high : List ℕ) (c : Cuts) (a : BothAs s H (past p) (past r) free s₆ low high c) where
    take_0 : TakeAsks s₆ H (past p) (past r) free up
    take_0 = subst (λ x. TakeAsks x H (past p) (past r) free up) (sym (both-written s free p r up planned s₆ low high c a)) (take-asks s free p r up planned up)

    module _ (s₈ : List ℕ) (e : s₈ ≡ taken_out s₆ H (past p) (past r) free up) (place : ℕ) (z : place ≡ low_place H up) where
      abbrev lower : Half
      lower = half_in free place (5 * H) c.low

      abbrev higher : Half
      higher = half_in free (17 * H - place) H c.high

      eight : s₈ ≡ im8 F H (tree_of s) p r s (taken F H (tree_of s) p r up) (taken_path F H (tree_of s) p r up)
      eight = e ∙ ap (λ x. taken_out x H (past p) (past r) free up) (both-written s free p r up planned s₆ low high c a) ∙ taken_is s free p r up planned up

      eight-size : length s₈ ≡ length s
      eight-size = ap length eight ∙ size-8 s free p r up planned up

      under-low : number_of (under_low F H (tree_of s) p r up) ≡ lower.number
      unfolding half_in
      under-low = number-under-low s free p r up planned up ∙ ap F (sym z)

      under-high : number_of (under_high F H (tree_of s) p r up) ≡ higher.number
      unfolding half_in
      under-high = number-under-high s free p r up planned up ∙ ap (λ k. F (17 * H - k)) (sym z)

      behind-low : raise_branches [] (branches_of (right_past_p F H (tree_of s) p r)) ≡ pieces_in lower.pieces.edge lower.pieces.rest (past p) low lower.pieces.parts
      unfolding half_in
      behind-low = low-pieces s free p r up planned s₆ low high c a

      behind-high : raise_branches [] (branches_of (right_past_r F H (tree_of s) p r)) ≡ pieces_in higher.pieces.edge higher.pieces.rest (past r) high higher.pieces.parts
      unfolding half_in
      behind-high = high-pieces s free p r up planned s₆ low high c a

      size-0 : length (root_line (F (7 * H)) (past p) lower low (past r) higher high) ≤ 1016
      size-0 =
          root-size F H (tree_of s) p r (under_low F H (tree_of s) p r up) (under_high F H (tree_of s) p r up) (F (7 * H)) lower higher low high (front-past p) (front-past r)
          (number-first s free p r up planned) under-low under-high behind-low behind-high planned.root_fits

      page-0 : page 2 (suc H) (root_line (F (7 * H)) (past p) lower low (past r) higher high)
          ≡ page_of (suc H) (root_over F H (tree_of s) p r (under_low F H (tree_of s) p r up) (under_high F H (tree_of s) p r up))
      page-0 =
          root-page F H (tree_of s) p r (under_low F H (tree_of s) p r up) (under_high F H (tree_of s) p r up) (F (7 * H)) lower higher low high (front-past p) (front-past r)
          (number-first s free p r up planned) under-low under-high behind-low behind-high

      root-0 : RootAsks s₈ H (past p) (past r) free lower low higher high
      unfolding half_in
      root-0 =
          record {
            levels = omega (arith, planned.low);
            enough = planned.enough;
            room = omega (arith, planned.room (10 * H), eight-size);
            lower =
                record {
                  ends = omega (arith, past-length p);
                  small_number = small place;
                  small_edge = small (5 * H);
                  small_rest = small (5 * H + 1);
                  fit = a.lower.fit;
                };
            higher =
                record {
                  ends = omega (arith, past-length r);
                  small_number = small (17 * H - place);
                  small_edge = small H;
                  small_rest = small (H + 1);
                  fit = a.higher.fit;
                };
            size = size-0;
          }

      module _ (s₉ : List ℕ) (w : s₉ ≡ write_node s₈ (F (10 * H)) (page 2 (H + 1) (root_line (F (7 * H)) (past p) lower low (past r) higher high))) where
        nine : s₉ ≡ image_over F H (tree_of s) p r up s
        unfolding image_over im9
        nine =
            w ∙ ap (λ k. write_node s₈ (F (10 * H)) (page 2 k (root_line (F (7 * H)) (past p) lower low (past r) higher high))) next_level
            ∙ ap₂ (λ x y. write_node x (F (10 * H)) y) eight page-0
          where
            next_level : H + 1 ≡ suc H
            next_level = omega arith

        nine-size : length s₉ ≡ length s
        nine-size =
            ap length w
            ∙ write-length s₈ (F (10 * H)) (page 2 (H + 1) (root_line (F (7 * H)) (past p) lower low (past r) higher high)) (omega (arith, planned.room (10 * H), eight-size))
            (page-length 2 (H + 1) (root_line (F (7 * H)) (past p) lower low (past r) higher high) size-0)
            ∙ eight-size

        done-0 : (s₁₀ : List ℕ) (num live : ℕ) → num ≡ F (10 * H) → live ≡ (header_of s).live → s₁₀ ≡ write_node s₉ 0 (head_page (length s₉ / 1024) num (H + 1) live)
            → s₁₀ ≡ swung_over s free (past p) (past r) up
        unfolding swung_over nodes_of
        done-0 s₁₀ num live en el q =
            q ∙ ap₂ (λ n k. write_node s₉ 0 (head_page n num k live)) (ap (λ l. l / 1024) nine-size) (next_level)
            ∙ ap₂ (λ n l. write_node s₉ 0 (head_page (length s / 1024) n (suc H) l)) en el
            ∙ ap (λ x. write_node x 0 (head_page (length s / 1024) (F (10 * H)) (suc H) (header_of s).live)) (nine ∙ sym (ap₂ (λ x y. image_over F H (tree_of s) x y up s) (front-past p) (front-past r)))
          where
            next_level : H + 1 ≡ suc H
            next_level = omega arith

-- THE STORE'S SIZE
pub store-size : (s free bound limit : List ℕ) (up : Bool) → PastPlan s free bound limit up → (32768 ≤ length s) × (length s ≤ 1048576)
store-size s free bound limit up B = let w = whole_parts (length s) B.plan.whole in (omega (arith, w.filled, w.enough), omega (arith, w.filled, w.few))

-- AS THE CODE MEETS THEM, with its own number of levels and its own ends
module _ (s free bound limit : List ℕ) (up : Bool) (B : PastPlan s free bound limit up) (h : ℕ) (eh : h ≡ u16 s 8) where
  levels-are : (header_of s).levels ≡ h
  levels-are = header-levels s ∙ sym eh

  told : (C : ℕ → List ℕ → List ℕ → Type 0) → C (header_of s).levels (past (front bound)) (past (front limit)) → C h bound limit
  told C x =
      subst (λ k. C k bound limit) levels-are
      (subst (λ b. C (header_of s).levels b limit) (sym B.bound_is) (subst (λ l. C (header_of s).levels (past (front bound)) l) (sym B.limit_is) x))

  pub low-levels : h ≤ 7
  low-levels = omega (arith, levels-are, B.plan.low)

  pub some-levels : 1 ≤ h
  some-levels = omega (arith, levels-are, B.plan.some)

  pub enough-free : 10 * h + 1 ≤ length free
  enough-free = omega (arith, levels-are, B.plan.enough)

  pub cuts_asked : BothAsks s h bound limit free
  cuts_asked = told (λ k b l. BothAsks s k b l free) (both-asks s free (front bound) (front limit) up B.plan (big s free (front bound) (front limit) up B.plan))

  module _ (s₆ low high : List ℕ) (c : Cuts) (a : BothAs s h bound limit free s₆ low high c) where
    pub range-taken : TakeAsks s₆ h bound limit free up
    range-taken = told (λ k b l. BothAs s k b l free s₆ low high c → TakeAsks s₆ k b l free up) (take_0 s free (front bound) (front limit) up B.plan s₆ low high c) a

    module _ (s₈ : List ℕ) (e : s₈ ≡ taken_out s₆ h bound limit free up) (place : ℕ) (z : place ≡ low_place h up) where
      module _ (lower higher : Half) (l-is : lower ≡ half_in free place (5 * h) c.low) (h-is : higher ≡ half_in free (17 * h - place) h c.high) where
        pub root-asked : RootAsks s₈ h bound limit free lower low higher high
        root-asked =
            subst (λ x. RootAsks s₈ h bound limit free x low higher high) (sym l-is)
            (subst (λ y. RootAsks s₈ h bound limit free (half_in free place (5 * h) c.low) low y high) (sym h-is)
            (told
            (λ k b l. BothAs s k b l free s₆ low high c → s₈ ≡ taken_out s₆ k b l free up → place ≡ low_place k up
            → RootAsks s₈ k b l free (half_in free place (5 * k) c.low) low (half_in free (17 * k - place) k c.high) high)
            (λ x y q. root-0 s free (front bound) (front limit) up B.plan s₆ low high c x s₈ y place q) a e z))

        pub swung-done : (s₉ s₁₀ : List ℕ) (num live : ℕ)
            → s₉ ≡ write_node s₈ (fresh_in free (10 * h)) (page 2 (h + 1) (root_line (fresh_in free (7 * h)) bound lower low limit higher high))
            → num ≡ get_or free (10 * h) 0 → live ≡ u16 s 10 → s₁₀ ≡ write_node s₉ 0 (head_page (length s₉ / 1024) num (h + 1) live)
            → s₁₀ ≡ swung_over s free bound limit up
        swung-done s₉ s₁₀ num live w en el q =
            told
            (λ k b l. BothAs s k b l free s₆ low high c → s₈ ≡ taken_out s₆ k b l free up → place ≡ low_place k up
            → s₉ ≡ write_node s₈ (fresh_in free (10 * k)) (page 2 (k + 1) (root_line (fresh_in free (7 * k)) b (half_in free place (5 * k) c.low) low l (half_in free (17 * k - place) k c.high) high))
            → num ≡ fresh_in free (10 * k) → s₁₀ ≡ write_node s₉ 0 (head_page (length s₉ / 1024) num (k + 1) live) → s₁₀ ≡ swung_over s free b l up)
            (λ x y v w' en' q'. done-0 s free (front bound) (front limit) up B.plan s₆ low high c x s₈ y place v s₉ w' s₁₀ num live en' (el ∙ sym (header-live s)) q')
            a e z
            (w ∙ ap₂ (λ x y. write_node s₈ (fresh_in free (10 * h)) (page 2 (h + 1) (root_line (fresh_in free (7 * h)) bound x low limit y high))) l-is h-is)
            (en ∙ (unfold fresh_in in refl)) q
