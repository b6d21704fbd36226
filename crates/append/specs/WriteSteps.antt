-- The steps of the writers: each put after the last one is one put, and the whole is what append's Laws defines.
-- Relies on octets' `put-put`.
use Rattle.std.specs.Prelude.{ℕ, ◌+◌, ◌*◌, ◌-◌, ◌≤◌, ◌<◌, ◌≡◌, refl, List, [], ◌++◌, true, false, length, leb}
use Rattle.image.specs.Prelude.{sym, ap, ap₂, ◌∙◌, append-nil, arith, lt-leb, le-leb}
use Rattle.image.specs.Bytes.{u16, u16_bytes}
use Rattle.image.specs.Entry.{Message, child, message}
use Rattle.image.specs.Image.{whole_nodes}
use Rattle.octets.specs.Put.{put}
use Rattle.laws.specs.Encode.{bytes_of, bytes_of_all}
use Rattle.laws.specs.Page.{page}
use Rattle.node.specs.Pages.{put-node}
use Rattle.laws.specs.WriteNode.{write_node}
use Rattle.laws.specs.Upkeep.Page.{page_of}
use Rattle.node.specs.Whole.{Whole, whole_parts}
use Rattle.laws.specs.ButLive.{sound_but_live, SoundParts, parts_of}
use Rattle.append.specs.Laws.Append.{root_at, room_at_root, appended, root-inside, header-root, header-levels, room_fits}
use Rattle.append.specs.Laws.Raise.{root_page, root_raised, root-page-length}
use Rattle.append.specs.Laws.SetLive.{with_live}

-- A MESSAGE APPENDED: its entry has n bytes and ends at `end`
pub appends : (s s₁ s₂ bytes : List ℕ) (m : Message) (at len n end : ℕ) → bytes_of (message m) ≡ bytes → n ≡ length bytes → at ≡ root_at s → len ≡ u16 s at
    → s₁ ≡ put s (at + 8 + len) bytes → end ≡ at + 8 + len + n → s₂ ≡ put s₁ at (u16_bytes (end - (at + 8))) → s₂ ≡ appended s m
unfolding appended
appends s s₁ s₂ bytes m at len n end b k a l e q f =
    let z : len ≡ u16 s (root_at s) = l ∙ ap (u16 s) a in
    let v : end - (at + 8) ≡ len + length bytes = omega arith in
    f ∙ ap₂ (λ x y. put x at (u16_bytes y)) e v
    ∙ ap₂ (λ x y. put (put s (x + 8 + y) bytes) x (u16_bytes (y + length bytes))) a z
    ∙ ap (λ y. put (put s (root_at s + 8 + u16 s (root_at s)) y) (root_at s) (u16_bytes (u16 s (root_at s) + length y))) (sym b)

-- A NEW ROOT
root-page : (level old : ℕ) (m : Message) (bytes : List ℕ) → bytes_of (message m) ≡ bytes → page 2 level (bytes_of (child old []) ++ bytes) ≡ root_page level old m
unfolding root_page page_of bytes_of_all
root-page level old m bytes b = ap (λ l. page 2 level (bytes_of (child old []) ++ l)) (sym b ∙ sym (append-nil (bytes_of (message m))))

-- the page of the new root, and node 0 named after it
pub raises : (s s₁ s₂ s₃ body : List ℕ) (i level levels old : ℕ) (m : Message) → length (bytes_of (message m)) ≤ 1010
    → old ≡ u16 s 6 → levels ≡ u16 s 8 → level ≡ levels + 1 → body ≡ bytes_of (child old []) ++ bytes_of (message m)
    → s₁ ≡ write_node s i (page 2 level body) → s₂ ≡ put s₁ 6 (u16_bytes i) → s₃ ≡ put s₂ 8 (u16_bytes level)
    → s₃ ≡ root_raised s i m
unfolding root_raised
raises s s₁ s₂ s₃ body i level levels old m h a l c b e₁ e₂ e₃ =
    let up : level ≡ u16 s 8 + 1 = c ∙ ap (λ y. y + 1) l in
    let p : page 2 level body ≡ root_page level old m = ap (page 2 level) b ∙ root-page level old m (bytes_of (message m)) refl in
    let w : s₁ ≡ put s (i * 1024) (root_page level old m) =
    e₁ ∙ ap (write_node s i) p ∙ sym (put-node s i (root_page level old m) (root-page-length level old m h)) in
    e₃ ∙ ap (λ x. put x 8 (u16_bytes level)) (e₂ ∙ ap (λ x. put x 6 (u16_bytes i)) w)
    ∙ ap₂ (λ x y. put (put (put s (i * 1024) (root_page x y m)) 6 (u16_bytes i)) 8 (u16_bytes x)) up a

-- THE LIVE COUNT
pub sets-live : (s s₁ : List ℕ) (live : ℕ) → s₁ ≡ put s 10 (u16_bytes live) → s₁ ≡ with_live s live
unfolding with_live
sets-live s s₁ live e = e

-- THE ROOT'S PLACE AND ROOM
pub long : (s : List ℕ) → sound_but_live s ≡ true → 2048 ≤ length s
long s e =
    let p : SoundParts s = parts_of s e in
    let r = header-root s in
    let h = root-inside s e in
    omega (arith, p.root_low)

pub few-levels : (s : List ℕ) (levels : ℕ) → sound_but_live s ≡ true → levels ≡ u16 s 8 → levels ≤ 8
few-levels s levels e q = let p : SoundParts s = parts_of s e in let h = header-levels s in omega (arith, p.levels_high)

pub root-place : (s : List ℕ) (root : ℕ) → sound_but_live s ≡ true → root ≡ u16 s 6 → (root * 1024 ≡ root_at s) × (root * 1024 + 1024 ≤ length s)
unfolding root_at
root-place s root e q = let h = root-inside s e in (ap (λ k. k * 1024) q, omega arith)

pub no_room : (s : List ℕ) (size levels : ℕ) → levels ≡ u16 s 8 → levels < 2 → false ≡ room_at_root s size
unfolding room_at_root
no_room s size levels q h = let z : u16 s 8 < 2 = omega arith in rw (lt-leb 2 (u16 s 8) z)

pub room_by : (s : List ℕ) (size levels at len : ℕ) → levels ≡ u16 s 8 → 2 ≤ levels → at ≡ root_at s → len ≡ u16 s at → leb (len + size) 1016 ≡ room_at_root s size
unfolding room_at_root
room_by s size levels at len q h a l =
    let z : 2 ≤ u16 s 8 = omega arith in
    ap (λ k. leb (k + size) 1016) (l ∙ ap (u16 s) a) ∙ rw (le-leb 2 (u16 s 8) z)

-- what the callers' premises say of sizes
pub small-store : (s : List ℕ) → whole_nodes (length s) ≡ true → length s ≤ 2000000
small-store s e = let w : Whole (length s) = whole_parts (length s) e in omega (arith, w.filled, w.few)

pub room_at : (s : List ℕ) (size at len : ℕ) → room_at_root s size ≡ true → at ≡ root_at s → len ≡ u16 s at → len + size ≤ 1016
room_at s size at len e a l = let z : len ≡ u16 s (root_at s) = l ∙ ap (u16 s) a in omega (arith, room_fits s size e)
