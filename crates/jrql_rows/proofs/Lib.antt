pub use Rattle.graph_index.proofs as of_graph_index
pub use Rattle.graph_index.proofs.of_hinted_chunks.of_mld_ops as of_mld_ops
pub use Rattle.jrql_ast.proofs as of_jrql_ast
pub mod ColumnLaws
pub mod FreeLaws
pub mod Keeping
pub mod NumberedRows
pub mod RowHints
pub mod RowNumbers
