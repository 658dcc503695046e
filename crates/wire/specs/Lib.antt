pub mod Bytes
pub mod Lines
pub mod Kind
pub mod Frame
pub mod Decoder
pub mod Answer
