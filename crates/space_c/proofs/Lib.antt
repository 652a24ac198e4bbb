mod Bounds
mod Files
