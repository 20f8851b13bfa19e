pub mod Fusion
pub mod Cutting
pub mod FusionPairs
pub mod FusionLaws
pub mod Compacting
pub mod CompactingLaws
