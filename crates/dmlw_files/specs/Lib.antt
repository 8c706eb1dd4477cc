-- The definitions of `dmlw_files`' contracts.
pub mod Files
