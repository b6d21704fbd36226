-- The image written level by level is the packed image. And where pages go to free nodes only, a store in which some of them are written and node 0
-- is the old one still holds the old tree (request S-12).
-- Relies on Sweep (the pages in order), Tidy and Stored (the packed image), and on laws' Frame and WriteNode.
use Rattle.std.specs.Prelude.{◌⊎◌, ℕ, ◌+◌, ◌*◌, ◌/◌, ◌≤◌, ◌≡◌, List, true, false, length}
use Rattle.image.specs.Prelude.{inl, inr, sym, ◌∙◌, arith}
use Rattle.image.specs.Table.{Row}
use Rattle.image.specs.Image.{node_bytes, header_of, header, tree_of}
use Rattle.image.specs.Sound.{numbers, is_in, once, in_range, sound, table_of}
use Rattle.laws.specs.Frame.{Keeps, tree-stays}
use Rattle.octets.specs.Order.{not_so}
use Rattle.laws.specs.WriteNode.{write_node, write-length, write_same, write-other}
use Rattle.packed.specs.Form.Chunk.{All}
use Rattle.packed.specs.Form.Packed.{Built, packed}
use Rattle.packed.specs.Form.Leaves.{tabled}
use Rattle.packed.specs.Form.Numbered.{times, times-in, in-times, times-once, once-times, range-times, times-range}
use Rattle.laws.specs.Page.{number_of, head_page, head-length}
use Rattle.packed.specs.Form.Pages.{Written}
use Rattle.packed.specs.Form.Stored.{written-stays, HoldsTree}
use Rattle.packed.specs.Form.Tidy.{Page, page_numbers, write_all, PageFits, In, all-length, all-other, all_same, range-ready, zero-out, image_of, Table, built-holds, built-other, built-packs, root-parts, one-over}
use Rattle.packed.specs.Form.Sweep.{order_pages, Ordered, ordered}

-- any list of pages that makes up a tree, written in any order, and node 0 last
module _ (base : List ℕ) (n live : ℕ) (b : Built) (ps : List Page) (size : length base ≡ 1024 * n) (some-nodes : 1 ≤ n)
    (ready : All (PageFits n) ps) (o : once (page_numbers ps) ≡ true) (r : in_range n (page_numbers ps) ≡ true)
    (makes : (image : List ℕ) → All (In image) ps → Written b.root b.levels image)
    (same_numbers : (j : ℕ) → times j (numbers b.root) ≡ times j (page_numbers ps)) where
  poured-size : length (write_all ps base) ≡ 1024 * n
  poured-size = all-length n ps base ready size

  poured-fits : 1024 * 0 + 1024 ≤ length (write_all ps base)
  poured-fits = rw poured-size (omega arith)

  not-page : (j : ℕ) → is_in j (numbers b.root) ≡ false → is_in j (page_numbers ps) ≡ false
  not-page j e = in-times j (page_numbers ps) (sym (same_numbers j) ∙ times-in j (numbers b.root) e)

  zero-not : is_in 0 (numbers b.root) ≡ false
  zero-not = in-times 0 (numbers b.root) (same_numbers 0 ∙ times-in 0 (page_numbers ps) (zero-out n (page_numbers ps) r))

  headed : List ℕ
  headed = head_page n (number_of b.root) b.levels live

  headed-full : length headed ≡ 1024
  unfolding headed
  headed-full = head-length n (number_of b.root) b.levels live

  poured-stays : Keeps (write_all ps base) (write_node (write_all ps base) 0 headed) (numbers b.root)
  unfolding Keeps
  poured-stays j e = write-other (write_all ps base) 0 headed poured-fits headed-full j (λ q. not_so e (rw q zero-not))

  pub poured-holds : HoldsTree (write_node (write_all ps base) 0 (head_page n (number_of b.root) b.levels live)) n live b
  unfolding headed
  poured-holds =
      record {
        size = write-length (write_all ps base) 0 headed poured-fits headed-full ∙ poured-size;
        head = write_same (write_all ps base) 0 headed poured-fits headed-full;
        pages = written-stays b.root b.levels (write_all ps base) (write_node (write_all ps base) 0 headed) poured-stays (makes (write_all ps base) (all_same n ps base ready size o));
      }

  pub poured-other : (j : ℕ) → 1 ≤ j → is_in j (numbers b.root) ≡ false
      → node_bytes (write_node (write_all ps base) 0 (head_page n (number_of b.root) b.levels live)) j ≡ node_bytes base j
  unfolding headed
  poured-other j k e =
      write-other (write_all ps base) 0 headed poured-fits headed-full j (λ q. omega arith) ∙ all-other n ps base ready size j (not-page j e)

-- the way of the code
unfoldable pub order_image : List ℕ → List ℕ → ℕ → List Row → List ℕ
order_image base nums n t =
    write_node (write_all (order_pages nums t) base) 0 (head_page n (number_of (packed nums t).root) (packed nums t).levels (length t))

module _ (base nums : List ℕ) (n : ℕ) (t : List Row) (size : length base ≡ 1024 * n) (least : 32 ≤ n) (most : n ≤ 1024)
    (enough : n / 4 ≤ length nums + 1) (o : once nums ≡ true) (r : in_range n nums ≡ true) (tab : Table n t) where
  order_is : Ordered nums t
  order_is = ordered nums t n least most tab.few enough (tabled t tab.rises tab.formed tab.values)

  order-once : once (page_numbers (order_pages nums t)) ≡ true
  order-once =
      times-once (page_numbers (order_pages nums t))
      (λ j. let a = order_is.counted j in let c = once-times (numbers (packed nums t).root) (root-parts base nums n t size least most enough o r tab).0 j in omega arith)

  order-range : in_range n (page_numbers (order_pages nums t)) ≡ true
  order-range =
      times-range n (page_numbers (order_pages nums t))
      (λ j k. range-times n (numbers (packed nums t).root) (root-parts base nums n t size least most enough o r tab).1 j (let a = order_is.counted j in omega arith))

  order-ready : All (PageFits n) (order_pages nums t)
  order-ready = range-ready n (order_pages nums t) order-range order_is.all_full

  pub order-holds : HoldsTree (order_image base nums n t) n (length t) (packed nums t)
  unfolding order_image
  order-holds =
      poured-holds base n (length t) (packed nums t) (order_pages nums t) size (omega arith) order-ready order-once order-range order_is.makes order_is.counted

  pub order_other : (j : ℕ) → 1 ≤ j → is_in j (numbers (packed nums t).root) ≡ false → node_bytes (order_image base nums n t) j ≡ node_bytes base j
  unfolding order_image
  order_other =
      poured-other base n (length t) (packed nums t) (order_pages nums t) size (omega arith) order-ready order-once order-range order_is.makes order_is.counted

  pub order-image : order_image base nums n t ≡ image_of base n (length t) (packed nums t)
  order-image =
      one-over (order_image base nums n t) (image_of base n (length t) (packed nums t)) n (length t) (packed nums t)
      (built-packs base nums n t size least most enough o r tab).neat order-holds (built-holds base nums n t size least most enough o r tab)
      (λ j k i e. order_other j k e ∙ sym (built-other base nums n t size least most enough o r tab j k e))

-- S-12: pages go to free nodes only. Any mix of the old nodes and the new ones, with the old node 0, is the old tree.
pub cut-tree : (old new mix : List ℕ) → ((j : ℕ) → is_in j (numbers (tree_of old)) ≡ true → node_bytes new j ≡ node_bytes old j)
    → node_bytes mix 0 ≡ node_bytes old 0 → ((j : ℕ) → (node_bytes mix j ≡ node_bytes old j) ⊎ (node_bytes mix j ≡ node_bytes new j))
    → tree_of mix ≡ tree_of old
unfolding tree_of header_of Keeps
cut-tree old new mix kept z either =
    rw z (tree-stays (header (node_bytes old 0)).levels old mix (header (node_bytes old 0)).root (λ j e. go j e (either j)))
  where
    go : (j : ℕ) → is_in j (numbers (tree_of old)) ≡ true → (node_bytes mix j ≡ node_bytes old j) ⊎ (node_bytes mix j ≡ node_bytes new j) → node_bytes mix j ≡ node_bytes old j
    go j e (inl q) = q
    go j e (inr q) = q ∙ kept j e

pub cut-sound : (old mix : List ℕ) → length mix ≡ length old → node_bytes mix 0 ≡ node_bytes old 0 → tree_of mix ≡ tree_of old
    → (sound mix ≡ sound old) × (table_of mix ≡ table_of old)
unfolding sound header_of table_of
cut-sound old mix l z e = (rw (l, z, e), rw e)
