-- Any two results that `scan`'s contract allows are identical (01, "How tight the contracts are"). The other contracts
-- give the result itself. Assumes nothing.
use mathlib.Core.Path.{◌≡◌, refl, sym, ap, ap₂, ◌∙◌}
use mathlib.Core.List.{List}
use lib.Ieee.{Float}
use Rattle.refusals.specs.Results.{Result, value, refused}
use Rattle.std.specs.Prelude.{Ok, Err}
use Rattle.std.specs.Prelude as Rust
use Rattle.answers.specs.declared.Refusal.{Refusal}
use Rattle.answers.specs.Answers.{checked_told}
use Rattle.answers.proofs.Determined.{told-apart}
use Rattle.tables.specs.declared.Table.{Table}
use Rattle.tables.specs.declared.Scanned.{Scanned}
use Rattle.tables.specs.Tables.{table_told, ScanSaid}

abbrev made : Table → Rust.Result Unit Refusal → Scanned
made t k = record { table = t; checked = k }

forget : Result Table → Result Unit
forget (value t) = value tt
forget (refused n) = refused n

forgotten : (k : Rust.Result Unit Refusal) (t : Table) → forget (table_told k t) ≡ checked_told k
unfolding forget
forgotten (Ok u) t = refl
forgotten (Err k) t = refl

pub scan-determined : (t : Table) (xs : List Float) (r q : Scanned) → ScanSaid t xs r → ScanSaid t xs q → r ≡ q
scan-determined t xs r q said said' =
    let tables : r.table ≡ q.table = said.1 ∙ sym said'.1 in
    let told : checked_told r.checked ≡ checked_told q.checked =
    sym (forgotten r.checked r.table) ∙ ap forget (said.0 ∙ sym said'.0) ∙ forgotten q.checked q.table in
    ap₂ made tables (told-apart r.checked q.checked told)
