pub use Rattle.text_rules.specs as text_rules
pub use Rattle.rdf_terms.specs as rdf_terms
pub use Rattle.graph_index.specs as graph_index
pub use Rattle.graph_index.specs.hinted_chunks.tree_clock as tree_clock
pub use Rattle.graph_index.specs.hinted_chunks.mld_ops as mld_ops
pub use Rattle.jrql_ast.specs as jrql_ast
pub use Rattle.jrql_filters.specs as jrql_filters
pub mod Bindings
pub mod ColumnOrder
pub mod KeptValues
pub mod RowFronts
pub mod RowFrontLaws
pub mod Unbinding
