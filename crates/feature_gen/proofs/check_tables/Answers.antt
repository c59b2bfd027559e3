-- `feature_gen::check_tables` meets its contract: where the sizes are accepted, every table has room for its test. Assumes nothing.
use Rattle.feature_gen.proofs.Laws.{tables_sized}
use Rattle.feature_gen.proofs.check_tables.Goals as goal

pub check_starts-requires : goal.check_starts-requires
check_starts-requires c =
    let s = tables_sized _ c.check_sizes.ensures c.in_ok-check_sizes.was in
    record { attribute_lists_in_bounds = s.attribute_starts; label_lists_in_bounds = s.label_starts_lem }

pub check_features-requires : goal.check_features-requires
check_features-requires c =
    let s = tables_sized _ c.check_sizes.ensures c.in_ok-check_sizes.was in
    record { features_in_bounds = s.kinds; features_in_bounds_2 = s.destinations; features_in_bounds_3 = s.sources }

pub check_entries-requires : goal.check_entries-requires
check_entries-requires c =
    let s = tables_sized _ c.check_sizes.ensures c.in_ok-check_sizes.was in
    record { attribute_entries_in_bounds = s.attribute_entries; label_entries_in_bounds = s.label_entries }
