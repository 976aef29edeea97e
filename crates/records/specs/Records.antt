-- "Up to four sync records per sender (start number, view, cut)", oldest first; the rule of four; when they are well formed and rise.
-- What stands beyond a sender's count is not held; only `the_record` reads it, where no record with the number is held, and no step goes by that. Assumes nothing.
use Rattle.std.specs.Prelude.{ℕ, ◌+◌, ◌-◌, ◌*◌, Bool, cond, ◌&&◌, eqb, ltb, leb, get_or, set, replicate}
use Rattle.below.specs.Below.{all_below, first_below}
use Rattle.views.specs.Views.{no_view, view_ok}
use Rattle.views.specs.Cuts.{no_cut, cut_ok}
use Rattle.records.specs.declared.Record.{Record}
use Rattle.records.specs.declared.Records.{Records}

abbrev pub no_record : Record
no_record = record { view = no_view; cut = no_cut; number = 0 }

abbrev pub no_records : Records
no_records = record { held = replicate 32 no_record; counts = replicate 8 0 }

-- record k of sender r
unfoldable pub record_at : Records → ℕ → ℕ → Record
record_at rs r k = get_or rs.held (r * 4 + k) no_record

-- how many records of r are held
unfoldable pub record_count : Records → ℕ → ℕ
record_count rs r = get_or rs.counts r 0

-- where r's record with this number stands: its count where none is held
unfoldable pub find_record : Records → ℕ → ℕ → ℕ
find_record rs r n = first_below (λ k. eqb (record_at rs r k).number n) (record_count rs r)

-- a record of r with this number is held
unfoldable pub holds_record : Records → ℕ → ℕ → Bool
holds_record rs r n = ltb (find_record rs r n) (record_count rs r)

-- and is this one
unfoldable pub the_record : Records → ℕ → ℕ → Record
the_record rs r n = record_at rs r (find_record rs r n)

-- the number of r's newest held record ("none counts as 0")
unfoldable pub newest : Records → ℕ → ℕ
newest rs r = cond (eqb (record_count rs r) 0) 0 (record_at rs r (record_count rs r - 1)).number

-- "Stored; with four held, the oldest goes."
unfoldable pub store_record : Records → ℕ → Record → Records
store_record rs r x =
    cond (ltb (record_count rs r) 4)
    (record { held = set rs.held (r * 4 + record_count rs r) x; counts = set rs.counts r (record_count rs r + 1) })
    (record {
      held = set (set (set (set rs.held (r * 4) (record_at rs r 1)) (r * 4 + 1) (record_at rs r 2)) (r * 4 + 2) (record_at rs r 3)) (r * 4 + 3) x;
      counts = rs.counts;
    })

-- "its records' views and their cuts are well formed"
unfoldable pub record_ok : Record → Bool
record_ok x = view_ok x.view && cut_ok x.view.set x.cut

unfoldable pub records_well_formed : Records → ℕ → Bool
records_well_formed rs r = all_below (λ k. record_ok (record_at rs r k)) (record_count rs r)

-- "each sender's records (at most four) rise in number"
unfoldable pub records_rise : Records → ℕ → Bool
records_rise rs r = leb (record_count rs r) 4 && all_below (λ k. ltb (record_at rs r k).number (record_at rs r (k + 1)).number) (record_count rs r - 1)

-- "p's own none above the latest start number"
unfoldable pub records_at_most : Records → ℕ → ℕ → Bool
records_at_most rs r n = all_below (λ k. leb (record_at rs r k).number n) (record_count rs r)

-- all that sound asks of records: "its records' views and their cuts are well formed", "each sender's records (at most four) rise in number, p's own none above the latest start number"
abbrev pub records_fit : Records → ℕ → ℕ → Bool
records_fit rs p n = all_below (records_well_formed rs) 8 && (all_below (records_rise rs) 8 && records_at_most rs p n)
