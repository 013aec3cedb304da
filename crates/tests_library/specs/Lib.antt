-- the disk of src/sparse.rt
pub mod Sparse
