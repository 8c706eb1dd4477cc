-- The definitions that the contracts of `dmlw_script` are written in.
pub use Rattle.bio.specs.Refusals
pub use Rattle.bio.specs.Requests
pub use Rattle.layer_table.specs.TableLines
pub use Rattle.layer_table.specs.Layers
pub mod Words
pub mod LineMeaning
pub mod Fields
pub mod Language
pub mod Plans
pub mod Grammar
pub mod FirstFault
pub mod RunPlans
pub mod RunFirstFault
pub mod inside
