-- What an accepted get or next leaves in its buffer: the bytes that were found at the front, and behind them what stood there.
-- Relies on nothing but lists.
use Rattle.std.specs.Prelude.{ℕ, ◌≡◌, List, ◌++◌, length, take, drop}
use Rattle.image.specs.Prelude.{sym, ap, ◌∙◌, take_at, drop_at}

pub record Front (bytes buffer : List ℕ) (n : ℕ) (buffer' : List ℕ) : Type 0 where
  pub size : n ≡ length bytes
  pub front : take n buffer' ≡ bytes
  pub behind : drop n buffer' ≡ drop n buffer

pub front-filled : (bytes buffer : List ℕ) (n : ℕ) (buffer' : List ℕ) → n ≡ length bytes → buffer' ≡ bytes ++ drop (length bytes) buffer → Front bytes buffer n buffer'
front-filled bytes buffer n buffer' size e =
    record {
      size = size;
      front = ap (take n) e ∙ take_at bytes (drop (length bytes) buffer) n (sym size);
      behind = ap (drop n) e ∙ drop_at bytes (drop (length bytes) buffer) n (sym size) ∙ ap (λ (k : ℕ). drop k buffer) (sym size);
    }
