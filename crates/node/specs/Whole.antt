-- The steps of whole_nodes: each test that it makes, against the definition.
use Rattle.std.specs.Prelude.{ℕ, ◌+◌, ◌*◌, ◌/◌, ◌<◌, ◌≤◌, ◌≡◌, List, true, false, ◌&&◌, length, leb, eqb}
use Rattle.image.specs.Prelude.{eq-eqb, ne_eqb, lt-leb, le-leb, eqb-true, leb-true}
use Rattle.octets.specs.Order.{and_left, and_right}
use Rattle.image.specs.Bytes.{u16}
use Rattle.image.specs.Image.{nodes_of, whole_nodes}

pub ragged : (len : ℕ) → (1024 * (len / 1024) ≡ len → ⊥) → false ≡ whole_nodes len
unfolding whole_nodes nodes_of
ragged len h = rw (ne_eqb (1024 * (len / 1024)) len h)

pub too_few : (len : ℕ) → 1024 * (len / 1024) ≡ len → len / 1024 < 32 → false ≡ whole_nodes len
unfolding whole_nodes nodes_of
too_few len e h = rw (eq-eqb (1024 * (len / 1024)) len e, lt-leb 32 (len / 1024) h)

pub whole_by : (len : ℕ) → 1024 * (len / 1024) ≡ len → 32 ≤ len / 1024 → leb (len / 1024) 1024 ≡ whole_nodes len
unfolding whole_nodes nodes_of
whole_by len e h = rw (eq-eqb (1024 * (len / 1024)) len e, le-leb 32 (len / 1024) h)

-- what a caller reads off the answer
pub record Whole (len : ℕ) : Type 0 where
  pub filled : 1024 * nodes_of len ≡ len
  pub enough : 32 ≤ nodes_of len
  pub few : nodes_of len ≤ 1024

pub whole_parts : (len : ℕ) → whole_nodes len ≡ true → Whole len
unfolding whole_nodes
whole_parts len e =
    let first : eqb (1024 * nodes_of len) len && leb 32 (nodes_of len) ≡ true = and_left (eqb (1024 * nodes_of len) len && leb 32 (nodes_of len)) _ e in
    record {
      filled = eqb-true (1024 * nodes_of len) len (and_left (eqb (1024 * nodes_of len) len) _ first);
      enough = leb-true 32 (nodes_of len) (and_right (eqb (1024 * nodes_of len) len) _ first);
      few = leb-true (nodes_of len) 1024 (and_right (eqb (1024 * nodes_of len) len && leb 32 (nodes_of len)) _ e);
    }

-- node i lies in the store s
abbrev pub HasNode : List ℕ → ℕ → Type 0
HasNode s i = i * 1024 + 1024 ≤ length s

-- and its entries do
abbrev pub HasEntries : List ℕ → ℕ → Type 0
HasEntries s i = HasNode s i × (u16 s (i * 1024) ≤ 1016)

-- and there is room for n bytes more behind them
abbrev pub HasRoom : List ℕ → ℕ → ℕ → Type 0
HasRoom s i n = HasNode s i × (u16 s (i * 1024) + n ≤ 1016)

-- the level that node i names
abbrev pub level_at : List ℕ → ℕ → ℕ
level_at s i = u16 s (i * 1024 + 4)
