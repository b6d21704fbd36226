-- What a node that reads says of its bytes: the entries written again have the same length, their pivots are short, and its tree has them.
use Rattle.std.specs.Prelude.{ℕ, zero, suc, ◌+◌, ◌-◌, ◌≤◌, ◌≡◌, refl, ◌⊎◌, List, [], ◌∷◌, ◌++◌, Bool, true, false, ◌&&◌, cond, length, take, drop, leb, eqb}
use Rattle.image.specs.Prelude.{sym, ap, ap₂, subst, ◌∙◌, inl, inr, Option, none, some, Option·some-injective, Option·none-ne-some, arith, length-append, length-drop, length-take, take-append-drop, leb-true, le-leb}
use Rattle.image.specs.Bytes.{u16}
use Rattle.image.specs.Entry.{Message, puts, drops, clears, Entry, pair, child, message, keyed, pointer, entry_of, entry_then, read_all, entries_of}
use Rattle.image.specs.Image.{Tree, interior, Forest, Branch, Inside, laid_out, entry_bytes, node_bytes, node_entries, message_then, messages_of, no_branches, branch_then, inside_of, forest_of, interior_of, or_none, tree_at}
use Rattle.laws.specs.Encode.{bytes_of, allowed, all_allowed, pair_size, child-size}
use Rattle.octets.specs.Order.{and_left, and_right}
use Rattle.laws.specs.Rising.{both}
use Rattle.laws.specs.Page.{number_of, child_entries, number_read}
use Rattle.laws.specs.Upkeep.Size.{message_entries, size_of, size-cons, size-nil, put-size, drop-size, clear-size}
use Rattle.laws.specs.Upkeep.Page.{Reads, none_left, one_more}

either : (b : Bool) (x y : Option Entry) (e : Entry) → cond b x y ≡ some e → (x ≡ some e) ⊎ (y ≡ some e)
either true x y e p = inl p
either false x y e p = inr p

-- an entry's bytes: its rest and four more
abbrev pub Good : Entry → List ℕ → Type 0
Good e r = (length (bytes_of e) ≡ 4 + length r) × (allowed e ≡ true)

halves : (n : ℕ) (r : List ℕ) → 2 ≤ length r → length (take n (drop 2 r)) + length (drop n (drop 2 r)) ≡ length r - 2
halves n r h = sym (length-append (take n (drop 2 r)) (drop n (drop 2 r))) ∙ ap length (take-append-drop n (drop 2 r)) ∙ length-drop 2 r

keyed-good : (make : List ℕ → List ℕ → Entry) → ((s v : List ℕ) → length (bytes_of (make s v)) ≡ 6 + length s + length v) → ((s v : List ℕ) → allowed (make s v) ≡ true)
    → (r : List ℕ) (e : Entry) → keyed make r ≡ some e → Good e r
unfolding keyed
keyed-good make size ok r e p = go (leb 2 (length r) && leb (u16 r 0) (length r - 2)) refl
  where
    go : (b : Bool) → leb 2 (length r) && leb (u16 r 0) (length r - 2) ≡ b → Good e r
    go true q =
        let is : some (make (take (u16 r 0) (drop 2 r)) (drop (u16 r 0) (drop 2 r))) ≡ some e = rw q at p in
        let eq : make (take (u16 r 0) (drop 2 r)) (drop (u16 r 0) (drop 2 r)) ≡ e = Option·some-injective (make (take (u16 r 0) (drop 2 r)) (drop (u16 r 0) (drop 2 r))) e is in
        let two : 2 ≤ length r = leb-true 2 (length r) (and_left _ _ q) in
        let good : Good (make (take (u16 r 0) (drop 2 r)) (drop (u16 r 0) (drop 2 r))) r =
        (omega (arith, two, size (take (u16 r 0) (drop 2 r)) (drop (u16 r 0) (drop 2 r)), halves (u16 r 0) r two), ok (take (u16 r 0) (drop 2 r)) (drop (u16 r 0) (drop 2 r))) in
        subst (λ x. Good x r) eq good
    go false q = let is : none ≡ some e = rw q at p in absurd (Option·none-ne-some e is)

pointer-good : (r : List ℕ) (e : Entry) → pointer r ≡ some e → Good e r
unfolding pointer allowed
pointer-good r e p = go (leb 2 (length r) && leb (length r - 2) 65) refl
  where
    go : (b : Bool) → leb 2 (length r) && leb (length r - 2) 65 ≡ b → Good e r
    go true q =
        let is : some (child (u16 r 0) (drop 2 r)) ≡ some e = rw q at p in
        let two : 2 ≤ length r = leb-true 2 (length r) (and_left _ _ q) in
        let short : length r - 2 ≤ 65 = leb-true (length r - 2) 65 (and_right (leb 2 (length r)) _ q) in
        let good : Good (child (u16 r 0) (drop 2 r)) r =
        (omega (arith, two, child-size (u16 r 0) (drop 2 r), length-drop 2 r), le-leb (length (drop 2 r)) 65 (omega (arith, length-drop 2 r))) in
        subst (λ x. Good x r) (Option·some-injective (child (u16 r 0) (drop 2 r)) e is) good
    go false q = let is : none ≡ some e = rw q at p in absurd (Option·none-ne-some e is)

pub always : (m : Message) → allowed (message m) ≡ true
unfolding allowed
always m = refl

pair-always : (s v : List ℕ) → allowed (pair s v) ≡ true
unfolding allowed
pair-always s v = refl

pub entry-good : (kind : ℕ) (r : List ℕ) (e : Entry) → entry_of kind r ≡ some e → Good e r
unfolding entry_of
entry-good kind r e p = first (either (eqb kind 0x0001) _ _ e p)
  where
    fifth : (some (message (clears r)) ≡ some e) ⊎ (none ≡ some e) → Good e r
    fifth (inl q) = subst (λ x. Good x r) (Option·some-injective (message (clears r)) e q) (clear-size r, always (clears r))
    fifth (inr q) = absurd (Option·none-ne-some e q)

    fourth : (some (message (drops r)) ≡ some e) ⊎ (cond (eqb kind 0x0022) (some (message (clears r))) none ≡ some e) → Good e r
    fourth (inl q) = subst (λ x. Good x r) (Option·some-injective (message (drops r)) e q) (drop-size r, always (drops r))
    fourth (inr q) = fifth (either (eqb kind 0x0022) _ _ e q)

    third : (keyed (λ s v. message (puts s v)) r ≡ some e)
        ⊎ (cond (eqb kind 0x0021) (some (message (drops r))) (cond (eqb kind 0x0022) (some (message (clears r))) none) ≡ some e) → Good e r
    third (inl q) = keyed-good (λ s v. message (puts s v)) put-size (λ s v. always (puts s v)) r e q
    third (inr q) = fourth (either (eqb kind 0x0021) _ _ e q)

    second : (pointer r ≡ some e)
        ⊎ (cond (eqb kind 0x0020) (keyed (λ s v. message (puts s v)) r)
        (cond (eqb kind 0x0021) (some (message (drops r))) (cond (eqb kind 0x0022) (some (message (clears r))) none)) ≡ some e) → Good e r
    second (inl q) = pointer-good r e q
    second (inr q) = third (either (eqb kind 0x0020) _ _ e q)

    first : (keyed pair r ≡ some e)
        ⊎ (cond (eqb kind 0x0010) (pointer r)
        (cond (eqb kind 0x0020) (keyed (λ s v. message (puts s v)) r)
        (cond (eqb kind 0x0021) (some (message (drops r))) (cond (eqb kind 0x0022) (some (message (clears r))) none))) ≡ some e) → Good e r
    first (inl q) = keyed-good pair pair_size pair-always r e q
    first (inr q) = second (either (eqb kind 0x0010) _ _ e q)

-- ALL ENTRIES
abbrev GoodAll : List Entry → List ℕ → Type 0
GoodAll es s = (size_of es ≡ length s) × (all_allowed es ≡ true)

good-nil : (es : List Entry) → some [] ≡ some es → GoodAll es []
unfolding all_allowed
good-nil es p = subst (λ x. GoodAll x []) (Option·some-injective [] es p) (size-nil, refl)

good-cons : (o : Option Entry) (q : Option (List Entry)) (es : List Entry) (s r t : List ℕ) → entry_then o q ≡ some es → length s ≡ 4 + length r + length t
    → ((e : Entry) → o ≡ some e → Good e r) → ((fs : List Entry) → q ≡ some fs → GoodAll fs t) → GoodAll es s
unfolding entry_then all_allowed
good-cons none q es s r t p l f g = absurd (Option·none-ne-some es p)
good-cons (some e) none es s r t p l f g = absurd (Option·none-ne-some es p)
good-cons (some e) (some fs) es s r t p l f g =
    let a : Good e r = f e refl in
    let b : GoodAll fs t = g fs refl in
    let good : GoodAll (e ∷ fs) s = (omega (arith, a.0, b.0, l, size-cons e fs), both a.1 b.1) in
    subst (λ x. GoodAll x s) (Option·some-injective (e ∷ fs) es p) good

pub all-good : (k : ℕ) (s : List ℕ) (es : List Entry) → read_all k s ≡ some es → GoodAll es s
unfolding read_all
all-good zero [] es p = good-nil es p
all-good zero (b ∷ s) es p = absurd (Option·none-ne-some es p)
all-good (suc k) [] es p = good-nil es p
all-good (suc k) (b ∷ s) es p =
    go (leb 4 (length (b ∷ s)) && leb (u16 (b ∷ s) 0) (length (b ∷ s) - 4)) refl (λ t fs q. all-good k t fs q)
  where
    go : (x : Bool) → leb 4 (length (b ∷ s)) && leb (u16 (b ∷ s) 0) (length (b ∷ s) - 4) ≡ x
        → ((t : List ℕ) (fs : List Entry) → read_all k t ≡ some fs → GoodAll fs t) → GoodAll es (b ∷ s)
    go true q ih =
        let four : 4 ≤ length (b ∷ s) = leb-true 4 (length (b ∷ s)) (and_left _ _ q) in
        let fits : u16 (b ∷ s) 0 ≤ length (b ∷ s) - 4 = leb-true (u16 (b ∷ s) 0) (length (b ∷ s) - 4) (and_right (leb 4 (length (b ∷ s))) _ q) in
        let r : List ℕ = take (u16 (b ∷ s) 0) (drop 4 (b ∷ s)) in
        let t : List ℕ = drop (u16 (b ∷ s) 0) (drop 4 (b ∷ s)) in
        let both-parts : length r + length t ≡ length (b ∷ s) - 4 = sym (length-append r t) ∙ ap length (take-append-drop (u16 (b ∷ s) 0) (drop 4 (b ∷ s))) ∙ length-drop 4 (b ∷ s) in
        good-cons (entry_of (u16 (b ∷ s) 2) r) (read_all k t) es (b ∷ s) r t (rw q at p) (omega (arith, four, both-parts))
        (λ e w. entry-good (u16 (b ∷ s) 2) r e w) (λ fs w. ih t fs w)
    go false q ih = let is : none ≡ some es = rw q at p in absurd (Option·none-ne-some es is)

take_short : (n : ℕ) (l : List ℕ) → length (take n l) ≤ n
take_short n l = omega (arith, length-take n l)

-- the entries of a node that reads: at most 1,016 bytes, short pivots
pub node-good : (kind level : ℕ) (node : List ℕ) (es : List Entry) → node_entries kind level node ≡ some es → (size_of es ≤ 1016) × (all_allowed es ≡ true)
unfolding node_entries laid_out entries_of entry_bytes
node-good kind level node es p = go (laid_out kind level node) refl
  where
    go : (x : Bool) → laid_out kind level node ≡ x → (size_of es ≤ 1016) × (all_allowed es ≡ true)
    go true q =
        let g : GoodAll es (take (u16 node 0) (drop 8 node)) = all-good (length (take (u16 node 0) (drop 8 node))) (take (u16 node 0) (drop 8 node)) es (rw q at p) in
        let l : u16 node 0 ≤ 1016 = leb-true (u16 node 0) 1016 (and_left _ _ (and_left _ _ (and_left _ _ (and_left _ _ q)))) in
        (omega (arith, g.0, l, take_short (u16 node 0) (drop 8 node)), g.1)
    go false q = let is : none ≡ some es = rw q at p in absurd (Option·none-ne-some es is)

-- FROM ENTRIES TO THE TREE, AND BACK
unfoldable pub branch_entries : List Branch → List Entry
branch_entries [] = []
branch_entries (k ∷ ks) = child k.number k.pivot ∷ branch_entries ks

messages-then : (m : Message) (es : List Entry) (o : Option (List Message)) (ms : List Message) → message_then m o ≡ some ms
    → ((ns : List Message) → o ≡ some ns → es ≡ message_entries ns) → message m ∷ es ≡ message_entries ms
unfolding message_then message_entries
messages-then m es none ms p f = absurd (Option·none-ne-some ms p)
messages-then m es (some ns) ms p f = ap (λ l. message m ∷ l) (f ns refl) ∙ ap message_entries (Option·some-injective (m ∷ ns) ms p)

messages-entries : (es : List Entry) (ms : List Message) → messages_of es ≡ some ms → es ≡ message_entries ms
unfolding messages_of message_entries
messages-entries [] ms p = ap message_entries (Option·some-injective [] ms p)
messages-entries (pair s v ∷ es) ms p = absurd (Option·none-ne-some ms p)
messages-entries (child i s ∷ es) ms p = absurd (Option·none-ne-some ms p)
messages-entries (message m ∷ es) ms p = messages-then m es (messages_of es) ms p (λ ns q. messages-entries es ns q)

abbrev reported : Inside → List Entry
reported y = branch_entries y.branches ++ message_entries y.messages

no-branches-entries : (es : List Entry) (o : Option (List Message)) (y : Inside) → no_branches o ≡ some y → ((ns : List Message) → o ≡ some ns → es ≡ message_entries ns) → es ≡ reported y
unfolding no_branches branch_entries
no-branches-entries es none y p f = absurd (Option·none-ne-some y p)
no-branches-entries es (some ns) y p f = f ns refl ∙ ap reported (Option·some-injective (record { branches = []; messages = ns }) y p)

branch-entries : (k : Branch) (es : List Entry) (o : Option Inside) (y : Inside) → branch_then k o ≡ some y → ((z : Inside) → o ≡ some z → es ≡ reported z)
    → child k.number k.pivot ∷ es ≡ reported y
unfolding branch_then branch_entries
branch-entries k es none y p f = absurd (Option·none-ne-some y p)
branch-entries k es (some z) y p f =
    ap (λ l. child k.number k.pivot ∷ l) (f z refl) ∙ ap reported (Option·some-injective (record { branches = k ∷ z.branches; messages = z.messages }) y p)

pub inside-entries : (es : List Entry) (y : Inside) → inside_of es ≡ some y → es ≡ reported y
unfolding inside_of branch_entries message_entries
inside-entries [] y p = ap reported (Option·some-injective (record { branches = []; messages = [] }) y p)
inside-entries (pair s v ∷ es) y p = absurd (Option·none-ne-some y p)
inside-entries (child i s ∷ es) y p = branch-entries (record { number = i; pivot = s }) es (inside_of es) y p (λ z q. inside-entries es z q)
inside-entries (message m ∷ es) y p = no-branches-entries (message m ∷ es) (messages_of (message m ∷ es)) y p (λ ns q. messages-entries (message m ∷ es) ns q)

pub branches-for-forest : (under : ℕ → Tree) → ((j : ℕ) → number_of (under j) ≡ j) → (ks : List Branch) → child_entries (forest_of under ks) ≡ branch_entries ks
unfolding child_entries forest_of branch_entries
branches-for-forest under law [] = refl
branches-for-forest under law (k ∷ ks) = ap₂ (λ i l. child i k.pivot ∷ l) (law k.number) (branches-for-forest under law ks)

reads-forest : (under : ℕ → Tree) → ((j : ℕ) → number_of (under j) ≡ j) → (ks : List Branch) → Reads under (forest_of under ks)
unfolding forest_of
reads-forest under law [] = none_left
reads-forest under law (k ∷ ks) = one_more (ap under (law k.number)) (reads-forest under law ks)

-- An interior node that reads.
pub record Node (l : ℕ) (s : List ℕ) (f : Forest) (ms : List Message) : Type 0 where
  pub branches : Reads (λ j. tree_at (suc l) s j) f
  pub fits : size_of (child_entries f ++ message_entries ms) ≤ 1016
  pub short : all_allowed (child_entries f ++ message_entries ms) ≡ true

node_by : (l : ℕ) (s : List ℕ) (i : ℕ) (o : Option (List Entry)) (f : Forest) (ms : List Message) → interior_of (λ j. tree_at (suc l) s j) i (or_none inside_of o) ≡ interior i f ms
    → ((es : List Entry) → o ≡ some es → (size_of es ≤ 1016) × (all_allowed es ≡ true)) → Node l s f ms
unfolding or_none interior_of
node_by l s i none f ms p g = let z : ◌≡◌ {A = ℕ} 0 1 = cc in absurd (omega arith)
node_by l s i (some es) f ms p g = go (inside_of es) refl p
  where
    go : (w : Option Inside) → inside_of es ≡ w → interior_of (λ j. tree_at (suc l) s j) i w ≡ interior i f ms → Node l s f ms
    go none q r = let z : ◌≡◌ {A = ℕ} 0 1 = cc in absurd (omega arith)
    go (some y) q r =
        let a : forest_of (λ j. tree_at (suc l) s j) y.branches ≡ f = cc in
        let b : y.messages ≡ ms = cc in
        let c : child_entries f ++ message_entries ms ≡ es =
        ap₂ (λ u v. child_entries u ++ message_entries v) (sym a) (sym b)
        ∙ ap (λ k. k ++ message_entries y.messages) (branches-for-forest (λ j. tree_at (suc l) s j) (λ j. number_read (suc l) s j) y.branches)
        ∙ sym (inside-entries es y q) in
        record {
          branches = subst (λ u. Reads (λ j. tree_at (suc l) s j) u) a (reads-forest (λ j. tree_at (suc l) s j) (λ j. number_read (suc l) s j) y.branches);
          fits = subst (λ u. size_of u ≤ 1016) (sym c) (g es refl).0;
          short = subst (λ u. all_allowed u ≡ true) (sym c) (g es refl).1;
        }

pub node_of : (l : ℕ) (s : List ℕ) (i : ℕ) (f : Forest) (ms : List Message) → tree_at (suc (suc l)) s i ≡ interior i f ms → Node l s f ms
unfolding tree_at
node_of l s i f ms p =
    node_by l s i (node_entries 0x0002 (suc (suc l)) (node_bytes s i)) f ms p
    (λ es q. node-good 0x0002 (suc (suc l)) (node_bytes s i) es q)
