-- One entry written after the others of a node: the node reads as before, with that entry last.
-- Relies on InNode for the bytes, and on laws' Encode for the one entry.
use Rattle.std.specs.Prelude.{ℕ, zero, suc, ◌+◌, ◌≤◌, ◌≡◌, refl, List, [], ◌∷◌, ◌++◌, Bool, true, false, ◌&&◌, length, take, drop, leb, eqb}
use Rattle.image.specs.Prelude.{sym, ap, ap₂, ◌∙◌, append_assoc, append-nil, Option, none, some, Option·some-injective, Option·none-ne-some, arith, length-append, length-drop, take_at, drop_at, drop-drop, take-add, length-take-le, le-leb}
use Rattle.image.specs.Bytes.{u16, u16_bytes, zeros}
use Rattle.image.specs.Entry.{Message, Entry, pair, child, message, entries_of}
use Rattle.image.specs.Image.{Inside, laid_out, entry_bytes, node_entries, message_then, messages_of, no_branches, branch_then, inside_of}
use Rattle.octets.specs.Order.{and_left, and_right}
use Rattle.octets.specs.Put.{put, put-size, u16-there}
use Rattle.laws.specs.Encode.{bytes_of, bytes_of_all, allowed, all_allowed, all_back, reads-append}
use Rattle.laws.specs.Rising.{both}
use Rattle.append.specs.Laws.InNode.{drop-put, u16-before, u16-after}

one_entry : (e : Entry) → allowed e ≡ true → entries_of (bytes_of e) ≡ some (e ∷ [])
one_entry e a = ap entries_of (sym whole) ∙ all_back (e ∷ []) fine
  where
    whole : bytes_of_all (e ∷ []) ≡ bytes_of e
    whole = unfold bytes_of_all in append-nil (bytes_of e)

    fine : all_allowed (e ∷ []) ≡ true
    fine = unfold all_allowed in both a refl

pub entries-append : (x : List ℕ) (es : List Entry) (e : Entry) → allowed e ≡ true → entries_of x ≡ some es → entries_of (x ++ bytes_of e) ≡ some (es ++ e ∷ [])
unfolding entries_of
entries-append x es e a p = reads-append (length x) x (bytes_of e) es (e ∷ []) p (one_entry e a) (length (x ++ bytes_of e)) (omega arith)

-- A NODE WITH ONE ENTRY MORE
unfoldable pub grown : List ℕ → Entry → List ℕ
grown node e = put (put node (8 + u16 node 0) (bytes_of e)) 0 (u16_bytes (u16 node 0 + length (bytes_of e)))

zeros-drop : (k : ℕ) (l : List ℕ) → zeros l ≡ true → zeros (drop k l) ≡ true
unfolding zeros
zeros-drop zero l h = h
zeros-drop (suc k) [] h = refl
zeros-drop (suc k) (b ∷ l) h = zeros-drop k l (and_right (eqb b 0) _ h)

module _ (node : List ℕ) (e : Entry) (full : length node ≡ 1024) (fits : u16 node 0 + length (bytes_of e) ≤ 1016) where
  longer-full : length (put node (8 + u16 node 0) (bytes_of e)) ≡ 1024
  longer-full = put-size node (8 + u16 node 0) (bytes_of e) (omega arith) ∙ full

  grown-size : u16 (grown node e) 0 ≡ u16 node 0 + length (bytes_of e)
  unfolding grown
  grown-size = u16-there (put node (8 + u16 node 0) (bytes_of e)) 0 (u16 node 0 + length (bytes_of e)) (omega arith)

  grown-u16 : (k : ℕ) → 2 ≤ k → k ≤ 6 → u16 (grown node e) k ≡ u16 node k
  unfolding grown
  grown-u16 k h g =
      let f = longer-full in
      u16-after (put node (8 + u16 node 0) (bytes_of e)) 0 (u16_bytes (u16 node 0 + length (bytes_of e))) (omega arith) k (omega arith)
      ∙ u16-before node (8 + u16 node 0) (bytes_of e) (omega arith) k (omega arith)

  grown-drop : (k : ℕ) → 8 ≤ k → drop k (grown node e) ≡ drop k (put node (8 + u16 node 0) (bytes_of e))
  unfolding grown
  grown-drop k h =
      let f = longer-full in
      drop-put (put node (8 + u16 node 0) (bytes_of e)) 0 (u16_bytes (u16 node 0 + length (bytes_of e))) (omega arith) k (omega arith)

  grown-end : drop (8 + (u16 node 0 + length (bytes_of e))) (grown node e) ≡ drop (length (bytes_of e)) (drop (8 + u16 node 0) node)
  grown-end =
      let z : 8 + (u16 node 0 + length (bytes_of e)) ≡ 8 + u16 node 0 + length (bytes_of e) = omega arith in
      grown-drop (8 + (u16 node 0 + length (bytes_of e))) (omega arith)
      ∙ drop-put node (8 + u16 node 0) (bytes_of e) (omega arith) (8 + (u16 node 0 + length (bytes_of e))) (omega arith)
      ∙ ap (λ k. drop k node) z ∙ sym (drop-drop (length (bytes_of e)) (8 + u16 node 0) node)

  grown-bytes : entry_bytes (grown node e) ≡ entry_bytes node ++ bytes_of e
  unfolding entry_bytes put
  grown-bytes =
      let n : ℕ = u16 node 0 in
      let A : List ℕ = take n (drop 8 node) in
      let R : List ℕ = drop (8 + n + length (bytes_of e)) node in
      let front : length (take 8 node) ≡ 8 = length-take-le 8 node (omega arith) in
      let own : length A ≡ n = length-take-le n (drop 8 node) (omega (arith, length-drop 8 node)) in
      let whole : put node (8 + n) (bytes_of e) ≡ take 8 node ++ (A ++ (bytes_of e ++ R)) =
      ap (λ l. l ++ (bytes_of e ++ R)) (take-add 8 n node) ∙ append_assoc (take 8 node) A (bytes_of e ++ R) in
      let rest : drop 8 (grown node e) ≡ (A ++ bytes_of e) ++ R =
      grown-drop 8 (omega arith) ∙ ap (drop 8) whole ∙ drop_at (take 8 node) (A ++ (bytes_of e ++ R)) 8 front ∙ sym (append_assoc A (bytes_of e) R) in
      ap₂ (λ k l. take k l) grown-size rest
      ∙ take_at (A ++ bytes_of e) R (n + length (bytes_of e)) (length-append A (bytes_of e) ∙ ap (λ k. k + length (bytes_of e)) own)

  grown-laid : (kind level : ℕ) → laid_out kind level node ≡ true → laid_out kind level (grown node e) ≡ true
  unfolding laid_out
  grown-laid kind level h =
      let four : leb (u16 node 0) 1016 && eqb (u16 node 2) kind && eqb (u16 node 4) level && eqb (u16 node 6) 0 ≡ true = and_left _ _ h in
      let three : leb (u16 node 0) 1016 && eqb (u16 node 2) kind && eqb (u16 node 4) level ≡ true = and_left _ _ four in
      let two : leb (u16 node 0) 1016 && eqb (u16 node 2) kind ≡ true = and_left _ _ three in
      rw (grown-size, grown-u16 2 (omega arith) (omega arith), grown-u16 4 (omega arith) (omega arith), grown-u16 6 (omega arith) (omega arith))
      (both
      (both
      (both
      (both (le-leb (u16 node 0 + length (bytes_of e)) 1016 fits) (and_right (leb (u16 node 0) 1016) _ two))
      (and_right (leb (u16 node 0) 1016 && eqb (u16 node 2) kind) _ three))
      (and_right (leb (u16 node 0) 1016 && eqb (u16 node 2) kind && eqb (u16 node 4) level) _ four))
      (ap zeros grown-end
      ∙ zeros-drop (length (bytes_of e)) (drop (8 + u16 node 0) node)
      (and_right (leb (u16 node 0) 1016 && eqb (u16 node 2) kind && eqb (u16 node 4) level && eqb (u16 node 6) 0) _ h)))

  pub grown-entries : (kind level : ℕ) (es : List Entry) → allowed e ≡ true → node_entries kind level node ≡ some es
      → node_entries kind level (grown node e) ≡ some (es ++ e ∷ [])
  unfolding node_entries
  grown-entries kind level es a p = go (laid_out kind level node) refl
    where
      go : (x : Bool) → laid_out kind level node ≡ x → node_entries kind level (grown node e) ≡ some (es ++ e ∷ [])
      go true q =
          let was : entries_of (entry_bytes node) ≡ some es = rw q at p in
          rw (grown-laid kind level q, grown-bytes) (entries-append (entry_bytes node) es e a was)
      go false q = let is : none ≡ some es = rw q at p in absurd (Option·none-ne-some es is)

-- A MESSAGE AFTER THE OTHERS
messages-append : (es : List Entry) (ms : List Message) (m : Message) → messages_of es ≡ some ms → messages_of (es ++ message m ∷ []) ≡ some (ms ++ m ∷ [])
unfolding messages_of message_then
messages-append [] ms m p = ap (λ l. some (l ++ m ∷ [])) (Option·some-injective [] ms p)
messages-append (pair s v ∷ es) ms m p = absurd (Option·none-ne-some ms p)
messages-append (child i s ∷ es) ms m p = absurd (Option·none-ne-some ms p)
messages-append (message x ∷ es) ms m p = go (messages_of es) refl (λ ns q. messages-append es ns m q)
  where
    go : (o : Option (List Message)) → messages_of es ≡ o → ((ns : List Message) → messages_of es ≡ some ns → messages_of (es ++ message m ∷ []) ≡ some (ns ++ m ∷ []))
        → message_then x (messages_of (es ++ message m ∷ [])) ≡ some (ms ++ m ∷ [])
    go none q ih = let is : none ≡ some ms = rw q at p in absurd (Option·none-ne-some ms is)
    go (some ns) q ih =
        let is : some (x ∷ ns) ≡ some ms = rw q at p in
        rw (ih ns q) (ap (λ l. some (l ++ m ∷ [])) (Option·some-injective (x ∷ ns) ms is))

abbrev with_message : Inside → Message → Inside
with_message x m = record { branches = x.branches; messages = x.messages ++ m ∷ [] }

pub inside-append : (es : List Entry) (x : Inside) (m : Message) → inside_of es ≡ some x
    → inside_of (es ++ message m ∷ []) ≡ some (record { branches = x.branches; messages = x.messages ++ m ∷ [] })
unfolding inside_of no_branches branch_then messages_of message_then
inside-append [] x m p = ap (λ y. some (with_message y m)) (Option·some-injective (record { branches = []; messages = [] }) x p)
inside-append (pair s v ∷ es) x m p = absurd (Option·none-ne-some x p)
inside-append (child i s ∷ es) x m p = go (inside_of es) refl (λ y q. inside-append es y m q)
  where
    go : (o : Option Inside) → inside_of es ≡ o → ((y : Inside) → inside_of es ≡ some y → inside_of (es ++ message m ∷ []) ≡ some (with_message y m))
        → branch_then (record { number = i; pivot = s }) (inside_of (es ++ message m ∷ [])) ≡ some (with_message x m)
    go none q ih = let is : none ≡ some x = rw q at p in absurd (Option·none-ne-some x is)
    go (some y) q ih =
        let is : some (record { branches = record { number = i; pivot = s } ∷ y.branches; messages = y.messages }) ≡ some x = rw q at p in
        rw (ih y q)
        (ap (λ z. some (with_message z m)) (Option·some-injective (record { branches = record { number = i; pivot = s } ∷ y.branches; messages = y.messages }) x is))
inside-append (message n ∷ es) x m p = go (messages_of (message n ∷ es)) refl
  where
    go : (o : Option (List Message)) → messages_of (message n ∷ es) ≡ o → no_branches (messages_of (message n ∷ es ++ message m ∷ [])) ≡ some (with_message x m)
    go none q = let is : none ≡ some x = (sym (ap no_branches q)) ∙ p in absurd (Option·none-ne-some x is)
    go (some ns) q =
        let is : some (record { branches = []; messages = ns }) ≡ some x = (sym (ap no_branches q)) ∙ p in
        ap no_branches (messages-append (message n ∷ es) ns m q)
        ∙ ap (λ z. some (with_message z m)) (Option·some-injective (record { branches = []; messages = ns }) x is)
