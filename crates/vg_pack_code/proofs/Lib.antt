pub mod RowsOfCode
