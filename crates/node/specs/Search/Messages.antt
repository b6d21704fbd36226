-- Whether entries hold a message, and how many they hold.
use Rattle.std.specs.Prelude.{ℕ, zero, suc, ◌+◌, ◌-◌, ◌≤◌, ◌≡◌, List, [], ◌∷◌, Bool, true, false, ◌&&◌, cond, length, take, drop, leb}
use Rattle.image.specs.Prelude.{Option, none, some, arith}
use Rattle.image.specs.Bytes.{u16}
use Rattle.image.specs.Entry as defined
use Rattle.node.specs.Entries.{list_of, read_some, cons_then}
use Rattle.node.specs.Lent.{entry_is}
use Rattle.node.specs.declared.entries.Message.{Message}
use Rattle.node.specs.declared.entries.Entry.{Entry}

unfoldable pub is_message : defined.Entry → Bool
is_message (defined.pair k v) = false
is_message (defined.child i k) = false
is_message (defined.message m) = true

unfoldable pub has_message : List defined.Entry → Bool
has_message [] = false
has_message (e ∷ es) = cond (is_message e) true (has_message es)

unfoldable pub messages_among : List defined.Entry → ℕ
messages_among [] = 0
messages_among (e ∷ es) = cond (is_message e) (1 + messages_among es) (messages_among es)

-- no more than the bytes that they are read from
few : (fuel : ℕ) (x : List ℕ) → messages_among (read_some fuel x) ≤ fuel
unfolding messages_among read_some cons_then
few zero x = omega arith
few (suc fuel) [] = omega arith
few (suc fuel) (b ∷ x) =
    go (leb 4 (length (b ∷ x)) && leb (u16 (b ∷ x) 0) (length (b ∷ x) - 4)) (defined.entry_of (u16 (b ∷ x) 2) (take (u16 (b ∷ x) 0) (drop 4 (b ∷ x))))
    (read_some fuel (drop (u16 (b ∷ x) 0) (drop 4 (b ∷ x)))) (few fuel (drop (u16 (b ∷ x) 0) (drop 4 (b ∷ x))))
  where
    one : (t : Bool) (n : ℕ) → n ≤ fuel → cond t (1 + n) n ≤ suc fuel
    one true n h = omega arith
    one false n h = omega arith

    more : (o : Option defined.Entry) (es : List defined.Entry) → messages_among es ≤ fuel → messages_among (cons_then o es) ≤ suc fuel
    more none es h = omega arith
    more (some e) es h = one (is_message e) (messages_among es) h

    go : (t : Bool) (o : Option defined.Entry) (es : List defined.Entry) → messages_among es ≤ fuel → messages_among (cond t (cons_then o es) []) ≤ suc fuel
    go true o es h = more o es h
    go false o es h = omega arith

pub messages-few : (x : List ℕ) → messages_among (list_of x) ≤ length x
unfolding list_of
messages-few x = few (length x) x

pub one-more : (e : Entry) (m : Message) (es ts : List defined.Entry) → es ≡ entry_is e ∷ ts → e ≡ Entry.Message m → messages_among es ≡ 1 + messages_among ts
unfolding messages_among is_message
one-more e m es ts q f = rw (q, f)
