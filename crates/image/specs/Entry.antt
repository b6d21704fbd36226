-- Document 01, "The image", "Entries": what stands in a node, and how it is read.
use Rattle.std.specs.Prelude.{ℕ, zero, suc, ◌-◌, List, [], ◌∷◌, ◌&&◌, cond, length, take, drop, leb, eqb}
use Rattle.image.specs.Prelude.{Option, none, some}
use Rattle.image.specs.Bytes.{u16}

-- "a message is a put, a drop or a clear": its suffix, and a put's value
pub data Message : Type 0 where
  puts : List ℕ → List ℕ → Message
  drops : List ℕ → Message
  clears : List ℕ → Message

-- "An entry read is a pair, a child or a message": suffix and value; node number and pivot suffix; the message
pub data Entry : Type 0 where
  pair : List ℕ → List ℕ → Entry
  child : ℕ → List ℕ → Entry
  message : Message → Entry

-- u16 suffix length, suffix, value, which fill the rest r of the entry exactly
unfoldable pub keyed : (List ℕ → List ℕ → Entry) → List ℕ → Option Entry
keyed make r =
    cond (leb 2 (length r) && leb (u16 r 0) (length r - 2))
    (some (make (take (u16 r 0) (drop 2 r)) (drop (u16 r 0) (drop 2 r)))) none

-- "u16 node number, pivot suffix of at most 65 bytes"
abbrev pub pivot_limit : ℕ
pivot_limit = 65

unfoldable pub pointer : List ℕ → Option Entry
pointer r =
    cond (leb 2 (length r) && leb (length r - 2) pivot_limit) (some (child (u16 r 0) (drop 2 r))) none

-- The entry of this kind whose rest is r. The kinds are hexadecimal: 0001 pair, 0010 child, 0020 put, 0021 drop, 0022 clear.
unfoldable pub entry_of : ℕ → List ℕ → Option Entry
entry_of kind r =
    cond (eqb kind 0x0001) (keyed pair r)
    (cond (eqb kind 0x0010) (pointer r)
    (cond (eqb kind 0x0020) (keyed (λ s v. message (puts s v)) r)
    (cond (eqb kind 0x0021) (some (message (drops r)))
    (cond (eqb kind 0x0022) (some (message (clears r))) none))))

-- an entry in front of the entries after it, where both read
unfoldable pub entry_then : Option Entry → Option (List Entry) → Option (List Entry)
entry_then none es = none
entry_then (some e) none = none
entry_then (some e) (some es) = some (e ∷ es)

-- The bytes are entries one after another, each a u16 length of its rest, a u16 kind and the rest, and the last ends where the bytes
-- end. The first number bounds how many there are: an entry is at least 4 bytes, so the number of the bytes is always enough.
unfoldable pub read_all : ℕ → List ℕ → Option (List Entry)
read_all zero [] = some []
read_all zero (b ∷ s) = none
read_all (suc more) [] = some []
read_all (suc more) (b ∷ s) =
    cond (leb 4 (length (b ∷ s)) && leb (u16 (b ∷ s) 0) (length (b ∷ s) - 4))
    (entry_then (entry_of (u16 (b ∷ s) 2) (take (u16 (b ∷ s) 0) (drop 4 (b ∷ s)))) (read_all more (drop (u16 (b ∷ s) 0) (drop 4 (b ∷ s)))))
    none

unfoldable pub entries_of : List ℕ → Option (List Entry)
entries_of s = read_all (length s) s
