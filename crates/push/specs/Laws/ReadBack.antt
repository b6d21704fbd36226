-- Pages that are written read back: bytes of entries after bytes of entries, a node with its children alone, an interior node with more
-- messages. Relies on Encode and on laws' `page`.
use Rattle.std.specs.Prelude.{ℕ, ◌≤◌, ◌≡◌, refl, List, [], ◌∷◌, ◌++◌, Bool, true, false, ◌&&◌, length, leb, eqb}
use Rattle.image.specs.Prelude.{sym, ap, ◌∙◌, append_assoc, none, some, Option·none-ne-some, arith, leb-true, eqb-true}
use Rattle.image.specs.Bytes.{u16}
use Rattle.image.specs.Entry.{Message, Entry, child, message, entries_of}
use Rattle.image.specs.Image.{Branch, Inside, laid_out, entry_bytes, node_entries, messages_of, no_branches, branch_then, inside_of}
use Rattle.octets.specs.Order.{and_left, and_right}
use Rattle.laws.specs.Encode.{bytes_of, bytes_of_all, all_allowed, all_back, reads-append}
use Rattle.laws.specs.Page.{page, page-laid, page-entries}
use Rattle.laws.specs.Upkeep.Size.{message_entries, messages-back}
use Rattle.laws.specs.Upkeep.Reading.{branch_entries, inside-entries}
use Rattle.push.specs.Laws.Written.{child_bytes}

pub entries-append : (x : List ℕ) (es fs : List Entry) → all_allowed fs ≡ true → entries_of x ≡ some es → entries_of (x ++ bytes_of_all fs) ≡ some (es ++ fs)
unfolding entries_of
entries-append x es fs a p = reads-append (length x) x (bytes_of_all fs) es fs p (all_back fs a) (length (x ++ bytes_of_all fs)) (omega arith)

-- A PAGE OF BYTES THAT READ
pub page-reads : (kind level : ℕ) (b : List ℕ) (es : List Entry) → length b ≤ 1016 → entries_of b ≡ some es → node_entries kind level (page kind level b) ≡ some es
unfolding node_entries
page-reads kind level b es h e = rw (page-laid kind level b h, page-entries kind level b) e

-- what a node that reads says of its bytes
pub record Laid (kind level : ℕ) (node : List ℕ) (es : List Entry) : Type 0 where
  pub size : u16 node 0 ≤ 1016
  pub kind_is : u16 node 2 ≡ kind
  pub level_is : u16 node 4 ≡ level
  pub reads : entries_of (entry_bytes node) ≡ some es

pub laid : (kind level : ℕ) (node : List ℕ) (es : List Entry) → node_entries kind level node ≡ some es → Laid kind level node es
unfolding node_entries laid_out
laid kind level node es h = go (laid_out kind level node) refl
  where
    go : (x : Bool) → laid_out kind level node ≡ x → Laid kind level node es
    go true e =
        let four : leb (u16 node 0) 1016 && eqb (u16 node 2) kind && eqb (u16 node 4) level && eqb (u16 node 6) 0 ≡ true = and_left _ _ e in
        let three : leb (u16 node 0) 1016 && eqb (u16 node 2) kind && eqb (u16 node 4) level ≡ true = and_left _ _ four in
        let two : leb (u16 node 0) 1016 && eqb (u16 node 2) kind ≡ true = and_left _ _ three in
        record {
          size = leb-true (u16 node 0) 1016 (and_left _ _ two);
          kind_is = eqb-true (u16 node 2) kind (and_right (leb (u16 node 0) 1016) _ two);
          level_is = eqb-true (u16 node 4) level (and_right (leb (u16 node 0) 1016 && eqb (u16 node 2) kind) _ three);
          reads = rw e at h;
        }
    go false e = let q : none ≡ some es = rw e at h in absurd (Option·none-ne-some es q)

pub inside_back : (ks : List Branch) (ms : List Message) → inside_of (branch_entries ks ++ message_entries ms) ≡ some (record { branches = ks; messages = ms })
unfolding inside_of branch_entries branch_then message_entries
inside_back [] [] = refl
inside_back [] (m ∷ ms) = go (m ∷ ms)
  where
    go : (ns : List Message) → no_branches (messages_of (message_entries ns)) ≡ some (record { branches = []; messages = ns })
    go ns = ap no_branches (messages-back ns) ∙ (unfold no_branches in refl)
inside_back (k ∷ ks) ms = rw (inside_back ks ms)

pub child-bytes : (ks : List Branch) → child_bytes ks ≡ bytes_of_all (branch_entries ks)
unfolding child_bytes branch_entries bytes_of_all
child-bytes [] = refl
child-bytes (k ∷ ks) = ap (λ l. bytes_of (child k.number k.pivot) ++ l) (child-bytes ks)

messages-more : (ms ns : List Message) → message_entries (ms ++ ns) ≡ message_entries ms ++ message_entries ns
unfolding message_entries
messages-more [] ns = refl
messages-more (m ∷ ms) ns = ap (λ l. message m ∷ l) (messages-more ms ns)

-- more messages after the entries of an interior node
pub inside-more : (es : List Entry) (y : Inside) (ns : List Message) → inside_of es ≡ some y
    → inside_of (es ++ message_entries ns) ≡ some (record { branches = y.branches; messages = y.messages ++ ns })
inside-more es y ns e =
    let a : es ≡ branch_entries y.branches ++ message_entries y.messages = inside-entries es y e in
    let b : es ++ message_entries ns ≡ branch_entries y.branches ++ message_entries (y.messages ++ ns) =
    ap (λ l. l ++ message_entries ns) a ∙ append_assoc (branch_entries y.branches) (message_entries y.messages) (message_entries ns)
    ∙ ap (λ l. branch_entries y.branches ++ l) (sym (messages-more y.messages ns)) in
    ap inside_of b ∙ inside_back y.branches (y.messages ++ ns)
