-- The laws of the kit's libraries that the files here use, passed on so that each file takes them by one import: on equality, truth values,
-- numbers, lists and their parts; and options. Operators and plain words come from the library's own Prelude. It declares nothing.
pub use Rattle.std.proofs.Common.{◌∙◌, sym, ap, ap₂, subst, inl, inr, ⊎_elim, true≢false, append_assoc, append-nil, arith, length-append, length-drop, length-set, drop_of_length-le, take-append-drop, length-take, length-take-le, drop-drop, take_at, drop_at, drop-cons, get_or-set_other, get_or-set_same, take-add, take_all, get_or-drop, get_or-take, take-take, take-suc, take-suc-set, drop-set-lt, ext_get_or, get_or-append-add, leb-true, le-leb, eq-eqb, eqb-true, ne_eqb, lt-ltb, ltb-true, leb-false, le-ltb, ltb-false, rules, add-one, mul-le-mul_right, mul-suc, mul-zero, one-mul, suc-mul}
pub use Rattle.std.proofs.Math.Path.{fun_ext}
pub use Rattle.std.proofs.lemmas.Bool.{false≢true, not-true, not-false, lt-leb, eqb-false}
pub use Rattle.std.proofs.Math.Bool.{and-true, and-false, and_comm}
pub use Rattle.std.proofs.Math.Option.{none, some, Option, none-ne-some as Option·none-ne-some, some-injective as Option·some-injective}
pub use Rattle.std.proofs.lemmas.List.{length-replicate, drop-append-le, take-append-le, set_split, drop-set-add, take-set-le}
pub use Rattle.std.proofs.Math.ListN.{get_or-append as List·getD-append}
pub use Rattle.std.proofs.Math.Seq.{drop-append-add, drop-append_seam, take-append_seam, drop-nil, paste, take-nil, paste-suc, paste-zero, take-length}
pub use Rattle.std.proofs.lemmas.List.Edits.{take-paste}
pub use borrow.Table.Steps.{cases}
pub use Rattle.std.proofs.Math.Numerals.{lt_of_le_of_ne}
pub use Rattle.std.proofs.Math.Nat.{mul-div-le}
