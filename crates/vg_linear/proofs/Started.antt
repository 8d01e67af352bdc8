-- What is known of the bytes with which a program starts, for those who stand on this room.
pub use Rattle.vg_started_bytes.proofs.Ends.{columns_stand, copy_length, tables_stand}
pub use Rattle.vg_started_bytes.proofs.Stands.{columns_known, columns_stand as all_columns_stand, table_stands, tables_known}
