-- Room for a message at the root: what each step of the code leaves, and that after a rebuild there always is room.
use Rattle.std.specs.Prelude.{ℕ, ◌+◌, ◌*◌, ◌/◌, ◌<◌, ◌≤◌, ◌≡◌, refl, List, Bool, true, false, ◌⊎◌, length, drop, get_or, Option, None, Some, MatchOption}
use Rattle.image.specs.Prelude.{sym, ap, subst, ◌∙◌, inl, inr, arith, le-leb}
use Rattle.image.specs.Bytes.{u16}
use Rattle.image.specs.Image.{nodes_of, whole_nodes, tree_of}
use Rattle.image.specs.Sound.{sound, table_of, is_in, numbers}
use Rattle.image.specs.Calls.{work_per_node}
use Rattle.node.specs.Whole.{Whole, whole_parts}
use Rattle.tree_check.specs.Whole.{Marks}
use Rattle.tree_check.specs.Layout.{nodes-are}
use Rattle.append.specs.Laws.Append.{room_at_root, root_at, room-levels, room_fits, header-levels}
use Rattle.rebuild.specs.Rebuild.{Rebuilt, cleared}
use Rattle.finish.specs.Finished.{cleared-size, cleared-later}
use Rattle.std.specs.Borrow.{Bor}
use Rattle.edit.specs.Free.{FirstFree}
use Rattle.edit.specs.declared.Terms.{Terms}

-- the code's SPARE: room is asked for together with these bytes, so that a size with them must be at most what a node holds
abbrev pub spare : ℕ
spare = 400

-- node i is free, and a root of one level more is allowed
pub record Free (s : List ℕ) (i : ℕ) : Type 0 where
  pub low : 1 ≤ i
  pub high : i < nodes_of (length s)
  pub unused : is_in i (numbers (tree_of s)) ≡ false
  pub seven : u16 s 8 ≤ 7

-- the marks that are lent are the store's
abbrev pub MarkedWhere : Option (Bor (List ℕ)) → List ℕ → Type 0
MarkedWhere marks s = MatchOption marks Unit (λ seen. Marks s seen.now)

pub marked-here : (marks : Option (Bor (List ℕ))) (s : List ℕ) (seen : Bor (List ℕ)) → MarkedWhere marks s → marks ≡ Some seen → Marks s seen.now
marked-here marks s seen m e = subst (λ o. MarkedWhere o s) e m

pub unmarked-so : (s : List ℕ) → MarkedWhere None s
unmarked-so s = tt

-- the terms of a call by itself lend these marks
abbrev pub AloneWith : List ℕ → Terms → Type 0
AloneWith seen terms = MatchOption terms.marks ⊥ (λ m. m.now ≡ seen)

pub alone-marked : (s seen : List ℕ) (terms : Terms) → Marks s seen → AloneWith seen terms → MarkedWhere terms.marks s
alone-marked s seen terms m a = go terms.marks a
  where
    go : (o : Option (Bor (List ℕ))) → MatchOption o ⊥ (λ x. x.now ≡ seen) → MarkedWhere o s
    go None f = absurd f
    go (Some x) f = subst (Marks s) (sym f) m

-- the answer of free_above: such a node, where it gives one
abbrev pub Above : List ℕ → Option ℕ → Type 0
Above s r = MatchOption r Unit (λ i. Free s i)

pub above-found : (s seen : List ℕ) (n levels : ℕ) (r : Option ℕ) → Marks s seen → n ≡ nodes_of (length s) → levels ≡ u16 s 8 → levels ≤ 7 → FirstFree seen n r → Above s r
above-found s seen n levels None held z l h f = tt
above-found s seen n levels (Some r) held z l h f = some-free f
  where
    unmarked : (i : ℕ) (b : Bool) → is_in i (numbers (tree_of s)) ≡ b → i < nodes_of (length s) → get_or seen i 0 ≡ 0 → is_in i (numbers (tree_of s)) ≡ false
    unmarked i false q k g = q
    unmarked i true q k g = absurd (let y : get_or seen i 0 ≡ 1 = held.marked i k ∙ rw q refl in omega arith)

    some-free : (1 ≤ r) × (r < n) × (get_or seen r 0 ≡ 0) → Free s r
    some-free (low, high, g) =
        let inside : r < nodes_of (length s) = omega arith in
        record { low = low; high = inside; unused = unmarked r (is_in r (numbers (tree_of s))) refl inside g; seven = omega arith }

pub few-nodes : (len : ℕ) → whole_nodes len ≡ true → (len / 1024 ≤ 1024) × (1024 ≤ len)
unfolding nodes_of
few-nodes len e = let p : Whole len = whole_parts len e in (p.few, omega (arith, p.filled, p.enough))

-- where a message of this size has room: at the root, or in a free node for a new root
abbrev pub Fits : List ℕ → ℕ → Option ℕ → Type 0
Fits s size r = MatchOption r (room_at_root s size ≡ true) (λ i. Free s i)

pub fits-root : (s : List ℕ) (size : ℕ) (r : Option ℕ) → Fits s size r → r ≡ None → room_at_root s size ≡ true
fits-root s size r f e = subst (Fits s size) e f

pub fits-above : (s : List ℕ) (size : ℕ) (r : Option ℕ) (i : ℕ) → Fits s size r → r ≡ Some i → Free s i
fits-above s size r i f e = subst (Fits s size) e f

-- what make_room leaves: the same map in a sound store, and room; of the work area only the part that calls may use has changed
pub record Roomy (s s' w w' : List ℕ) (size : ℕ) (r : Option ℕ) : Type 0 where
  pub is_sound : sound s' ≡ true
  pub table : table_of s' ≡ table_of s
  pub length_same : length s' ≡ length s
  pub work_length : length w' ≡ length w
  pub work_later : drop (work_per_node * nodes_of (length s)) w' ≡ drop (work_per_node * nodes_of (length s)) w
  pub area : (w' ≡ w) ⊎ (w' ≡ cleared (nodes_of (length s)) w)
  pub room : Fits s' size r

-- room with bytes to spare is room
pub room-less : (s : List ℕ) (size spare : ℕ) → room_at_root s (size + spare) ≡ true → room_at_root s size ≡ true
unfolding room_at_root
room-less s size spare e =
    let f = room_fits s (size + spare) e in
    rw (le-leb 2 (u16 s 8) (room-levels s (size + spare) e), le-leb (u16 s (root_at s) + size) 1016 (omega arith))

pub roomy-now : (s w : List ℕ) (size : ℕ) → sound s ≡ true → room_at_root s size ≡ true → Roomy s s w w size None
roomy-now s w size ok e = record { is_sound = ok; table = refl; length_same = refl; work_length = refl; work_later = refl; area = inl refl; room = e }

pub roomy-above : (s w : List ℕ) (size r : ℕ) → sound s ≡ true → Free s r → Roomy s s w w size (Some r)
roomy-above s w size r ok a = record { is_sound = ok; table = refl; length_same = refl; work_length = refl; work_later = refl; area = inl refl; room = a }

module _ (s s' w w' : List ℕ) (size : ℕ) (whole : whole_nodes (length s) ≡ true) (long : work_per_node * nodes_of (length s) ≤ length w) (r : Rebuilt s s' w w') where
  same-work : length w' ≡ length w
  same-work = cleared-size (nodes_of (length s)) w w' r.work long

  same-later : drop (work_per_node * nodes_of (length s)) w' ≡ drop (work_per_node * nodes_of (length s)) w
  same-later = cleared-later (nodes_of (length s)) w w' r.work

  pub rebuilt-above : (i : ℕ) → i ≡ length s' / 1024 / 4 → Roomy s s' w w' size (Some i)
  rebuilt-above i e =
      record { is_sound = r.is_sound; table = r.table; length_same = r.size; work_length = same-work; work_later = same-later; area = inr r.work; room = free }
    where
      quarter : i ≡ nodes_of (length s) / 4
      quarter = e ∙ ap (λ n. n / 4) (nodes-are (length s') ∙ ap nodes_of r.size)

      free : Free s' i
      free =
          let n = (whole_parts (length s) whole).enough in
          let q = quarter in
          let z : nodes_of (length s') ≡ nodes_of (length s) = ap nodes_of r.size in
          record {
            low = omega arith;
            high = omega arith;
            unused = r.unused i (omega arith);
            seven = let h = header-levels s' in let l = r.levels in omega arith;
          }
