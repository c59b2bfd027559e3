pub mod Trainable
