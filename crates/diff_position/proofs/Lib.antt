-- Laws on the bytes of lines.
pub mod Bytes
