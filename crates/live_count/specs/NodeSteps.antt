-- Step lemmas of the walk's two functions that call each other: what each exit owes, and what each call asks.
-- Relies on WalkLaws and on the definitions of Walk and Noted.
use Rattle.std.specs.Prelude.{ℕ, ◌+◌, ◌-◌, ◌*◌, ◌<◌, ◌≤◌, ◌≡◌, List, ◌++◌, true, ◌&&◌, length, drop}
use Rattle.image.specs.Prelude.{sym, ap, ap₂, ◌∙◌, arith}
use Rattle.image.specs.Bytes.{u16, shared}
use Rattle.image.specs.Image.{Branch, nodes_of, forest_of, tree_at}
use Rattle.octets.specs.Cap.{cap, cap-small, cap-add}
use Rattle.laws.specs.Reading.Relative.{lifts, usable, usable_in}
use Rattle.node.specs.Cut.{cut, cut-length}
use Rattle.node.specs.Lent.{left_of}
use Rattle.node.specs.declared.entries.Entries.{Entries}
use Rattle.node.specs.Search.Latest.{newest_among}
use Rattle.node.specs.Search.Own.{branches_among}
use Rattle.lookup.specs.Look.{listing, branches-usable, node-inside}
use Rattle.live_count.specs.Live.{holds_no_message, live_here, live_branches}
use Rattle.live_count.specs.LiveLaws.{too_long}
use Rattle.live_count.specs.declared.trail.Trail.{Trail}
use Rattle.live_count.specs.declared.position.Position.{Position}
use Rattle.live_count.specs.Walk.{passing, count_among, Ready, ReadyBranches}
use Rattle.live_count.specs.Noted.{Standing, Entered}
use Rattle.live_count.specs.Steps.{passes-short, few-left}
use Rattle.live_count.specs.WalkLaws.{leaf-counts, interior-counts}

-- A node: its pivots are lo and hi, which lack what its parent lifts.
module _ (s : List ℕ) (level num : ℕ) (above : Position) (ready : Ready s level num above.trail) (lo hi : List ℕ) where
  abbrev Whole : ℕ
  Whole = live_here (tree_at level s num) (passing above.trail) (above.prefix ++ shared lo hi) (drop (lifts lo hi) hi)

  -- what the node lifts is too long for any path
  pub node-long : 64 < length (above.prefix ++ shared lo hi) → 0 ≡ cap Whole
  node-long l =
      sym (cap-small 0 (omega arith))
      ∙ ap cap (sym (too_long (tree_at level s num) (passing above.trail) (above.prefix ++ shared lo hi) (drop (lifts lo hi) hi) (passes-short above.trail) l))

  -- here is where the walk stands at the node
  module _ (k : ℕ) (here : Position) (st : Standing above lo hi k here) where
    rest-is : drop k hi ≡ drop (lifts lo hi) hi
    unfolding lifts
    rest-is = ap (λ n. drop n hi) st.lifts

    whole_is : live_here (tree_at level s num) (passing above.trail) here.prefix (drop k hi) ≡ Whole
    whole_is = ap₂ (λ prefix h. live_here (tree_at level s num) (passing above.trail) prefix h) st.prefix rest-is

    module _ (it : Entries) (own : ℕ) (el : left_of it ≡ listing s num) (eo : own ≡ count_among (passing here.trail) here.prefix (left_of it)) where
      own_is : own ≡ count_among (passing above.trail) here.prefix (listing s num)
      own_is = eo ∙ ap₂ (λ t es. count_among (passing t) here.prefix es) st.trail el

      pub node-leaf : level ≤ 1 → own ≤ 65535 → own ≡ cap Whole
      node-leaf l h = sym (cap-small own h) ∙ ap cap (own_is ∙ leaf-counts s num level ready.reads l (passing above.trail) here.prefix (drop k hi) ∙ whole_is)

      -- the children
      module _ (two : 2 ≤ level) (a b : List ℕ) (below : Position) (en : Entered (left_of it) a b here below) (ks : List Branch) (eb : ks ≡ branches_among (left_of it)) where
        branches-are : ks ≡ branches_among (listing s num)
        branches-are = eb ∙ ap branches_among el

        pub branches-ready : ReadyBranches s (level - 1) ks below.trail
        branches-ready =
            record {
              reads = ap (λ x. usable_in (nodes_of (length s)) (forest_of (λ j. tree_at (level - 1) s j) x)) branches-are ∙ branches-usable s num level ready.reads two;
              deep = let d = en.trail.depth in let f = ready.deep in let e = ap (λ (x : Trail). x.depth) st.trail in omega arith;
            }

        pub node-inner : (n r : ℕ) (h : List ℕ) → h ≡ drop k hi
            → n ≡ cap (live_branches (forest_of (λ j. tree_at (level - 1) s j) ks) (passing below.trail) below.prefix h)
            → r ≡ cap (own + n) → r ≡ cap Whole
        node-inner n r h eh e er =
            let f : (q : List ℕ) → passing below.trail q ≡ passing above.trail q && holds_no_message (newest_among (listing s num) (drop (length here.prefix) q))
            = λ q. en.trail.test q
            ∙ ap₂ (λ t es. passing t q && holds_no_message (newest_among es (drop (length here.prefix) q))) st.trail el in
            let K : ℕ = live_branches (forest_of (λ j. tree_at (level - 1) s j) (branches_among (listing s num))) (passing below.trail) here.prefix (drop k hi) in
            let a : count_among (passing above.trail) here.prefix (listing s num) + K ≡ live_here (tree_at level s num) (passing above.trail) here.prefix (drop k hi)
            = interior-counts s num level ready.reads two (passing above.trail) (passing below.trail) here.prefix (drop k hi) f in
            let b : n ≡ cap K
            = e ∙ ap₂ (λ xs x. cap (live_branches (forest_of (λ j. tree_at (level - 1) s j) xs) (passing below.trail) x h)) branches-are en.prefix
            ∙ ap (λ x. cap (live_branches (forest_of (λ j. tree_at (level - 1) s j) (branches_among (listing s num))) (passing below.trail) here.prefix x)) eh in
            er ∙ ap (λ z. cap (own + z)) b ∙ cap-add own K ∙ ap cap (ap (λ z. z + K) own_is ∙ a ∙ whole_is)

-- a node has few entries
pub few-entries : (s : List ℕ) (num level : ℕ) (it : Entries) → usable (nodes_of (length s)) (tree_at level s num) ≡ true
    → it.rest.now ≡ cut s (num * 1024 + 8) (num * 1024 + 8 + u16 s (num * 1024)) → length (left_of it) ≤ 65535
few-entries s num level it u e =
    let w = node-inside s num level u in
    let f = few-left it in
    let n = ap length e in
    let l = cut-length s (num * 1024 + 8) (num * 1024 + 8 + u16 s (num * 1024)) (omega arith) (let a = w.0 in let b = w.1 in omega arith) in
    let b = w.1 in
    omega arith
