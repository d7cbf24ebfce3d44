pub mod ByteOrder
pub mod KeyBytes
pub mod KeyOrder
