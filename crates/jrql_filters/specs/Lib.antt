pub mod FilteredRows
