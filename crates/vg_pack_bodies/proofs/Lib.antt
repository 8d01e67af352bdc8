pub mod MethodRows
